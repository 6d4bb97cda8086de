mod Pieces
mod Tried
mod Misused
