pub mod Laws
pub mod Digits
pub mod Putting
pub mod Writing
pub mod Proved
