pub mod Words
pub mod Kernel
pub mod Register
pub mod Patterns
pub mod Sharing
pub mod Solving
pub mod Block
pub mod Standing
