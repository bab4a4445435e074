-- How the code holds what the noun stage's definitions say. No promise to a host rests on these.
pub mod Link
pub mod Stage
