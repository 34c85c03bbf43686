pub mod Steps
pub mod Passes
