pub mod Going
pub mod Held
pub mod Apart
pub mod Standing
