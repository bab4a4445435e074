-- The laws of specs/, a file for each definition that they are about.
pub mod Booleans
pub mod Scalar
pub mod Encoding
pub mod Decoding
pub mod Table37
pub mod Validity
pub mod Neighbours
pub mod PlainRuns
pub mod Walked
pub mod Parts
pub mod CheckEncoded
pub mod CheckAccepted
