pub mod Faults
pub use Rattle.net_base.specs.Bytes
pub use Rattle.net_base.specs.DatagramHeaders
pub use Rattle.formats.specs.UdpWire
