pub mod Text
pub mod Wrote
pub mod Claims
