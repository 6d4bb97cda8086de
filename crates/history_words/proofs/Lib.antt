pub mod Callers
pub mod Spacing
