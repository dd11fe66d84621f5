pub mod Queried
pub mod Parsed
pub mod Receipt
