pub mod Losses
pub mod Marks
pub mod Walks
pub mod Choices
pub mod Tellings
pub mod Known
pub mod Exact
