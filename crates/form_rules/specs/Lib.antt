pub mod Agree
pub mod Calls
pub mod Claims
pub mod inner
