pub mod Unmoved
pub mod Recorded
pub mod Taking
pub mod Opening
pub mod Halting
pub mod Standing
pub mod Could
pub mod Targets
pub mod Advancing
pub mod Following
pub mod Bounds
mod CallerLaws
mod Rested
mod Longer
mod Forgotten
pub mod Growing
mod NoBytes
mod Replies
mod Ticks
pub mod Shared
