pub mod Rows
pub mod OneEdge
pub mod Passing
pub mod Asked
pub mod Ends
