-- The laws that the functions' proofs cite, a file for each thing that they are about.
pub mod Held
pub mod Fed
pub mod OneCall
