pub mod Listed
pub mod Turns
pub mod Listings
