pub mod Encoding
pub mod Parts
pub mod PlainText
