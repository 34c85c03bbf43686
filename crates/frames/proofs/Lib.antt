pub mod FilledLists
pub mod Bytes
pub mod Answering
