pub mod HistoryWords
pub mod Shown
pub use Rattle.net_base.specs.Transcript
pub use Rattle.net_base.specs.Callers
pub mod Labels
