pub mod Longest
pub mod OfWorld
pub mod Refusals
