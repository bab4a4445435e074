-- The laws that the functions' proofs cite, a file for each thing that they are about.
pub mod Trails
pub mod Branches
pub mod Heard
pub mod Kept
