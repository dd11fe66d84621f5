-- What specs/ claims, proved.
pub mod Proved
