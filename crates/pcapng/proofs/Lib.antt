pub mod Following
pub mod Giving
pub mod Laying
pub mod Lengths
pub mod Reading
pub mod Whole
pub mod Wrapping
