pub mod Item
pub mod Run
pub mod Claims
