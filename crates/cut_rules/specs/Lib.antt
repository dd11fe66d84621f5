pub mod Sizes
pub mod Plan
pub mod Block
pub mod Cells
pub mod Missing
pub mod Edge
pub mod Claims
