-- The laws that the proofs of the batch share.
pub mod Tails
pub mod Refusals
pub mod Removals
pub mod Entries
