-- What an output is after bytes were written at a place of it, and the letters that are written.
pub mod Put
pub mod Letter
