pub mod Crc
pub mod Claims
pub mod inner
