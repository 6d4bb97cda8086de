pub mod Messages
pub mod Walks
pub mod Tables
pub mod Shared
mod Tags
pub mod Words
mod WorkedSession
pub mod Sayable
