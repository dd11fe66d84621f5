pub mod Exact
pub mod Stands
pub mod Flags
pub mod Cuts
pub mod Calls
pub mod Proved
