pub mod Sieve
pub mod Done
