mod Newlines
mod Pieces
mod Splits
