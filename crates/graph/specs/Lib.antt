pub mod Marks
pub mod Filled
pub mod Reaching
pub mod Wide
