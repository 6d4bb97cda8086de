pub mod Written
pub use Rattle.net_base.specs.StepWords
pub use Rattle.world_text.specs.WorldSpelling
pub mod Made
