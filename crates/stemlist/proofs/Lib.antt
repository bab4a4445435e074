-- What the functions' proofs rest on.
pub mod Turns
pub mod Renamed
