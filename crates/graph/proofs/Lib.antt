pub mod Filling
pub mod Marking
pub mod Entering
pub mod CountMarks
pub mod Reaching
pub mod DeadMarks
pub mod GraphChains
