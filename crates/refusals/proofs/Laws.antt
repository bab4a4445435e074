-- The laws of what the functions answer.
pub mod Refusals
