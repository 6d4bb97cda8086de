pub mod Rising
pub mod Takes
