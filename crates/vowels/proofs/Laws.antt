-- The laws that the functions' proofs cite, a file for each thing that they are about.
pub mod Vowel
pub mod Walk
pub mod LastVowel
pub mod Found
pub mod Harmony
