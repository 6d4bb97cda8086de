pub mod Asking
pub mod Fitting
pub mod Lowering
pub mod Naming
pub mod Parts
pub mod Reading
pub mod Sizes
pub mod Spelling
