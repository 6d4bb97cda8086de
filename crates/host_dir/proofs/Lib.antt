pub mod Drawn
pub mod Firsts
pub mod Index
pub mod Ready
pub mod Rows
pub mod Sure
pub mod Takers
pub mod Shared
