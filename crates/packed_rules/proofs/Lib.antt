pub mod FlagLaws
pub mod Lays
pub mod Unpacks
pub mod Back
pub mod Again
pub mod Proved
