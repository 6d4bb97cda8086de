pub mod FreeEvents
pub mod Lengths
pub mod Counting
pub mod Placing
pub mod SessionAnswers
pub mod SessionEvents
pub mod ToldReplies
pub mod SessionReplies
pub mod Opened
pub mod Messages
mod NoBytes
