pub mod Lists
pub mod NoBytes
