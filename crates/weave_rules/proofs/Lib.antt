pub mod PrefixSums
pub mod CallCases
pub mod Proved
