pub mod LoopBytes
pub mod Words
pub mod Joined
pub mod Sizes
pub mod Written
