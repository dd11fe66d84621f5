pub mod Linear
pub mod AtOnce
pub mod Over
pub mod Residue
pub mod Halves
