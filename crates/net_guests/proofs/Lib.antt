pub mod Asking
pub mod Passes
pub mod Firsts
pub mod Operating
pub mod Handing
pub mod Decided
pub mod Returning
pub mod Shared
