-- What the proofs of several functions use.
pub mod Left
pub mod Lines
pub mod Bound
pub mod Input
pub mod Proved
pub mod Texts
pub mod Written
