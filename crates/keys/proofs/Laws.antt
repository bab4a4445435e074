-- The laws that the functions' proofs cite, a file for each thing that they are about.
pub mod Reads
pub mod Optional
pub mod Keys
pub mod Search
pub mod KeyBefore
pub mod Ends
pub mod Sees
pub mod Literal
