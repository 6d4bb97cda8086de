pub mod Digits
pub mod Part
pub mod RunStatus
pub mod Telling
pub use Rattle.net_base.specs.Plain
pub use Rattle.net_base.specs.Summary
pub use Rattle.net_base.specs.Transcript
