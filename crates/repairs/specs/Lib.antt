-- How the code holds what the postlude repairs. No promise to a host rests on it.
pub mod Repairs
