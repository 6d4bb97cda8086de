pub mod Memory
pub mod Kept
pub mod Stands
pub use Rattle.net_base.specs.Actors
pub use Rattle.net_base.specs.Conversation
pub use Rattle.net_base.specs.Duties
