-- What the proofs of several functions use, and the theorems.
pub mod Exact
pub mod Range
pub mod Figures
pub mod Reading
pub mod Apart
pub mod Writing
pub mod Named
pub mod Trips
pub mod Keeping
pub mod Proved
