pub mod Blocks
pub mod Copies
pub mod Frames
pub mod Following
pub mod Reading
pub use Rattle.replay_views.specs.Capture
pub use Rattle.net_base.specs.Net
