pub mod Chains
mod Fours
