pub mod Layouts
pub mod Counted
pub mod Packed
pub mod Firsts
