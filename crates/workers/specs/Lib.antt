pub mod Calling
pub mod Shifts
