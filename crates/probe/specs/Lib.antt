-- How answers are laid out for the comparison.
pub mod Flat
pub mod Part
