-- What the proofs of several functions use.
pub mod Checking
pub mod Reading
pub mod Searches
pub mod Values
pub mod HandedOut
pub mod Endings
pub mod Inside
pub mod Numbers
pub mod Hits
pub mod Repeated
pub mod Proved
