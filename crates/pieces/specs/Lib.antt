-- How the code holds the pieces of a removed ending. No promise to a host rests on it.
pub mod Removed
