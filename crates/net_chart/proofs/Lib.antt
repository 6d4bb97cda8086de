pub mod Steps
pub mod Telling
pub mod Showing
pub mod Talking
pub mod TellingTalks
pub mod Bringing
