pub mod Packet
pub mod Calls
pub mod Claims
