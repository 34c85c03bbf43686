pub mod LoopNumbers
pub mod Slots
pub mod Turning
pub mod Walk
pub mod Wholes
pub mod Same
