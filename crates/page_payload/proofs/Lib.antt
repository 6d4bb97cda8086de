pub mod Payloads
pub mod Plainness
pub mod ReadBack
pub mod Shared
