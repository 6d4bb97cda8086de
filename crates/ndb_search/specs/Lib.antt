pub use Rattle.net_base.specs.Addresses
pub use Rattle.net_base.specs.Networks
pub use Rattle.net_base.specs.Search
pub mod Own
pub mod Closest
pub mod Numbers
pub mod Places
pub mod Prefixes
