pub mod Fragments
pub mod Calls
pub mod Claims
pub mod inner
