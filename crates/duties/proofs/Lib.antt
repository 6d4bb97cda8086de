pub mod Ends
pub mod Hosts
pub mod Loops
pub mod Ticks
pub mod Whole
mod Puts
mod Ordered
pub mod Covering
pub mod Shared
