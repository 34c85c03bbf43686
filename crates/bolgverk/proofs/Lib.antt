pub mod Determined
pub mod Kept
pub mod Checking
pub mod Timing
