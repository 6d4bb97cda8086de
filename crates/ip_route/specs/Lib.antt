pub mod Adding
pub mod Hops
pub mod Kept
pub use Rattle.net_base.specs.Routes
pub use Rattle.net_base.specs.World
