pub mod Told
pub mod Proved
