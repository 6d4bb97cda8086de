pub mod Told
pub use Rattle.net_base.specs.Addresses
pub use Rattle.net_base.specs.StepWords
pub use Rattle.net_base.specs.World
pub use Rattle.world_text.specs.LineReading
pub use Rattle.world_text.specs.WorldWords
