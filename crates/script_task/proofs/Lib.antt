pub mod DirReplies
pub mod Replies
pub mod Events
pub mod Settling
pub mod Shared
