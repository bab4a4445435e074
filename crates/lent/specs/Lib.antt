-- What the steps over a lent record leave there, and what the function with plain parameters gives.
pub mod Over
