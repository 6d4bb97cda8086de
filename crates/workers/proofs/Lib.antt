pub mod Counting
pub mod Waiting
