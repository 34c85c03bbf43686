pub mod Handed
pub mod Room
pub mod Answered
