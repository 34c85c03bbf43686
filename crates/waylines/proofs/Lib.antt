pub mod WayTexts
