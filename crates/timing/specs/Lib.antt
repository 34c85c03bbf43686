pub mod Pushed
pub mod Ready
pub mod Numbered
pub mod Answering
