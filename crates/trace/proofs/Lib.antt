pub mod Refusals
pub mod EightLaws
