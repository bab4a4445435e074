-- How the code holds the tails of a slice and what becomes of them. No promise to a host rests on these.
pub mod Tails
pub mod Removal
