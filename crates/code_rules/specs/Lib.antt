pub mod Fill
pub mod Calls
pub mod Claims
pub mod inner
