pub use Rattle.net_base.specs.Stamped
pub mod Rule
pub mod Tokens
pub mod Closing
pub mod Places
