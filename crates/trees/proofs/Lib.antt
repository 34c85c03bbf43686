pub mod TurnLaws
pub mod TreeEntries
