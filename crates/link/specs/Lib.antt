pub mod Run
pub mod Demand
pub mod Steps
pub mod Reached
pub mod Useless
pub mod Examples
