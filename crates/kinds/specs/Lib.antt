-- How the code holds kinds and pieces. No promise to a host rests on these.
pub mod Kinds
pub mod Entries
