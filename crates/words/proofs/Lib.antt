pub mod Numerals
mod Digits
mod HexPairs
mod Splits
pub mod Shared
