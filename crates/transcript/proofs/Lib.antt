mod Bytes
mod Entries
mod Events
pub mod Latest
mod LineDigits
mod Numbers
mod Readers
mod Replies
mod Runs
mod Spacing
mod Summing
mod Telling
pub mod Told
pub mod Shared
