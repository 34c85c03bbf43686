pub mod LongestListing
pub mod Numbered
pub mod ListingTexts
pub mod Determined
