-- The laws that the functions' proofs cite, a file for each thing that they are about.
pub mod Tab
pub mod LineRefusals
pub mod LineText
pub mod Listed
