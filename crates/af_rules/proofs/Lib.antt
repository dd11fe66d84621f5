pub mod Checks
pub mod Wraps
pub mod ReadBack
pub mod WrittenBack
pub mod Proved
