pub mod Words
pub mod Commands
pub mod Answers
pub mod Lines
pub mod Ends
