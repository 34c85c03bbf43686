pub mod Passing
pub mod Counting
pub mod Answers
