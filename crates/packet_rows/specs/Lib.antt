pub mod Deeds
pub mod Passages
pub mod Rows
pub mod Facts
pub mod Laws
pub mod Past
pub mod PacketRows
