pub mod Packed
pub mod Claims
