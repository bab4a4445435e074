-- `Theorems` is the file to open first; the others prove it.
pub mod Theorems
pub mod Joined
pub mod BatchTheorems
pub mod BatchWords
pub mod Laws
