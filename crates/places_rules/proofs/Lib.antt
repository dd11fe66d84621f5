pub mod Records
pub mod Keys
pub mod Checks
pub mod Ranges
pub mod Turns
pub mod Proved
