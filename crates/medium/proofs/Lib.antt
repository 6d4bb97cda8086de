pub mod Bodies
pub mod Fating
pub mod Laying
