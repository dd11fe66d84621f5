pub mod Endure
pub mod Claims
