pub mod Handing
pub mod Headers
pub mod Shown
