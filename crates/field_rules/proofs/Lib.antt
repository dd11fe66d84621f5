pub mod Sums
pub mod Products
pub mod Shifts
pub mod Powers
pub mod Rules
pub mod Answers
pub mod Proved
