-- The laws that the functions' proofs cite, a file for each thing that they are about.
pub mod Passing
pub mod Turns
pub mod Links
pub mod Lines
