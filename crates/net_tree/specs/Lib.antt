pub mod Bindings
pub mod Fault
pub mod Guess
pub mod Slots
pub use Rattle.net_base.specs.Paths
pub use Rattle.net_base.specs.Steps
