pub mod Promise
pub mod Calls
pub mod Claims
pub mod inner
