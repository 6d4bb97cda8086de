pub mod Carrying
pub mod HeaderSum
pub mod UdpSum
