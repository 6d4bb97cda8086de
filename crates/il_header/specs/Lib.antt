pub mod Faults
pub mod Views
pub use Rattle.net_base.specs.Bytes
pub use Rattle.formats.specs.IlWire
pub use Rattle.formats.specs.Sum
