pub mod Reading
pub mod Slots
pub use Rattle.net_base.specs.IlEnd
pub use Rattle.net_base.specs.Timer
