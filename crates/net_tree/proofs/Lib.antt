pub mod Guesses
pub mod Newest
pub mod Taken
