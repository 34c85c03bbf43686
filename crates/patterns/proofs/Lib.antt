pub mod PatternTexts
pub mod ShownLaws
