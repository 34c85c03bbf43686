pub mod SaidTexts
pub mod Rooms
pub mod Saving
pub mod SavedOnce
