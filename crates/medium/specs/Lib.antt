pub mod OnFates
pub mod OnMedium
pub mod Replies
pub mod Spelled
pub use Rattle.formats.specs.Datagram
pub use Rattle.net_base.specs.Medium
