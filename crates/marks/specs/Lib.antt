-- How the code holds what a mark answers. No promise to a host rests on it.
pub mod Reach
