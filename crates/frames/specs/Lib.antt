pub mod Operations
pub mod Places
pub mod Room
pub mod Little
pub mod Frames
