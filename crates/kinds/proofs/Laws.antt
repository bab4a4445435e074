-- The laws of kinds and of what is written of pieces, a file for each subject.
pub mod Kinds
pub mod Joined
pub mod Written
pub mod Entries
pub mod Spelling
