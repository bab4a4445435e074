-- The laws of the definitions; the code's proofs cite some of them too.
pub mod Batches
pub mod Summary
