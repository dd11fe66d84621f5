-- What the proofs of several functions use.
pub mod Steps
pub mod Runs
pub mod Starts
pub mod Faults
pub mod Seen
pub mod FirstOccurrence
pub mod Occurrences
pub mod Finds
pub mod Repeated
pub mod Numbers
pub mod Proved
