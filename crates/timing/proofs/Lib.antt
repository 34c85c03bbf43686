pub mod Firsts
pub mod Pushing
pub mod Looking
pub mod Numbering
pub mod Taking
pub mod Answered
