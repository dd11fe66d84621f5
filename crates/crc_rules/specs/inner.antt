pub mod Shifts
pub mod Halves
