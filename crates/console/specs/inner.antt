pub mod Answered
pub mod Sized
pub mod Said
