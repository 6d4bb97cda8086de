pub mod Carries
pub mod Faults
pub mod Headers
pub use Rattle.net_base.specs.Bytes
pub use Rattle.formats.specs.Ipv4
pub use Rattle.formats.specs.Sum
pub use Rattle.formats.specs.UdpWire
