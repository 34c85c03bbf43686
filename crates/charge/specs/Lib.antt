pub mod Chained
pub mod NextOut
pub mod Placed
pub mod ReadyFile
pub mod Sizes
pub mod Summed
pub mod Tables
