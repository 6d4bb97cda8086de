mod Near
mod InTurn
mod Unread
mod Unacked
mod Accepting
mod Questions
mod Witness
