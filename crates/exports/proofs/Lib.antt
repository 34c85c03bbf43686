pub mod Calling
pub mod Determined
