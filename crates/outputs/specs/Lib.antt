-- How the code holds a text that is to be written. No promise to a host rests on it.
pub mod Runs
