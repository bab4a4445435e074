-- The laws of what is written.
pub mod Put
pub mod Letter
