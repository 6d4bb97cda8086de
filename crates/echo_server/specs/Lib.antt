pub mod Serving
pub mod Calling
pub mod Echoes
pub mod Giving
pub mod Reading
