-- How the code holds what the definitions of turkish say. No promise to a host rests on these.
pub mod Groups
pub mod Trail
pub mod Outcome
