pub mod Fields
pub mod Checks
pub mod Lays
pub mod ReadBack
pub mod Numbers
pub mod Proved
