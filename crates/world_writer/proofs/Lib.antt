pub mod Laid
pub mod Messages
pub mod Said
