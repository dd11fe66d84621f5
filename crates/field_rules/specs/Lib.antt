pub mod Field
pub mod Calls
pub mod inner
pub mod Claims
