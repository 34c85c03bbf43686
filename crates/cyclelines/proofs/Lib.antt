pub mod CycleTexts
