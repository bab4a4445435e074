-- How the stage's outcome is told. No promise to a host rests on it.
pub mod Stage
