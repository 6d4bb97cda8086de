pub mod Kept
pub mod Told
pub mod Written
pub use Rattle.net_base.specs.ControlWords
