pub mod Names
pub mod Walk
pub mod Step
pub mod Claims
pub mod inner
