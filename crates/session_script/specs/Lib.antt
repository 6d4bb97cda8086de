pub mod Seen
pub mod Streams
pub mod InHistory
pub mod Worked
pub mod Worlds
