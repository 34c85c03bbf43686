pub mod Asking
pub mod AskingWrites
pub mod AskingFinds
pub mod AskingSalvages
pub mod AskingWays
pub mod AskingTimes
