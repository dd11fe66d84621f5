pub mod Figure
pub mod Read
pub mod Write
pub mod Seen
pub mod Claims
