pub mod Header
pub mod Read
pub mod Claims
