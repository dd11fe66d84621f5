pub mod Find
pub mod Calls
pub mod Reading
pub mod Claims
