-- What the proofs of several functions use.
pub mod ContainerNames
pub mod Refusals
pub mod StepCases
pub mod StepLaws
pub mod PlainWalks
pub mod LeftOver
pub mod Order
pub mod HandedNumbers
pub mod StepNumbers
pub mod Inside
pub mod NoContainers
pub mod Values
pub mod ValueWalks
pub mod Repeated
pub mod Rows
pub mod Proved
