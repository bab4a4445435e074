-- Laws that belong to no one function.
pub mod Flat
pub mod Part
