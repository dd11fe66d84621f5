pub mod Steps
pub mod Claims
