-- What the proofs of several functions use, and the theorems.
pub mod Refusals
pub mod Puts
pub mod Trimming
pub mod Back
pub mod Packets
pub mod Proved
