pub mod Announced
pub mod Begun
pub mod Echoing
pub mod Read
