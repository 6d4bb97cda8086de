pub mod OwnReplies
pub mod Plays
mod Walks
mod Fits
mod Answering
pub mod Serving
mod Short
pub mod Told
pub mod Shared
