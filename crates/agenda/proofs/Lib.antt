pub mod Dealing
pub mod Closing
pub mod Backing
pub mod Scripts
pub mod Shared
