-- The laws that the functions' proofs cite, a file for each thing that they are about.
pub mod Yken
pub mod Marks
