pub mod Asks
pub mod Scopes
pub mod Slots
pub mod Sets
pub mod OneRow
pub mod OneEdge
pub mod OneStep
pub mod Halves
