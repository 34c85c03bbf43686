pub mod Told
pub mod Heads
pub mod Bodies
pub mod Walk
