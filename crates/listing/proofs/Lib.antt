-- `Theorems` is the file to open first; the others prove it, each named for what it proves, and `Laws` has what the functions' proofs
-- rest on.
pub mod Theorems
pub mod Lines
pub mod Example
pub mod Blocks
pub mod Calls
pub mod Parts
pub mod Laws
