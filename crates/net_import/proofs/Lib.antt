mod Forgotten
mod Lengths
mod Marks
