-- How the code holds vowels and what harmony found. No promise to a host rests on these.
pub mod Vowel
pub mod LastVowel
pub mod Harmony
