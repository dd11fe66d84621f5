pub mod Bounds
pub mod Round
pub mod Tests
pub mod Table
pub mod Bytes
pub mod Answer
pub mod Refusal
pub mod Written
