pub mod Code
pub mod Erasure
pub mod Locators
pub mod Claims
