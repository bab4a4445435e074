-- The laws of what the functions write, a file for each subject.
pub mod Steps
pub mod Bytes
pub mod Places
pub mod FoldText
pub mod Written
pub mod Walks
pub mod Plain
pub mod FoldCall
