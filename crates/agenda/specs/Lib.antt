pub mod Ending
pub mod Given
pub use Rattle.history_laws.specs.Asked
pub use Rattle.prefix_law.specs.PrefixLaw
pub use Rattle.net_base.specs.Ends
