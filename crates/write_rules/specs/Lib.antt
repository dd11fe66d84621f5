pub mod Write
pub mod Packet
pub mod Claims
