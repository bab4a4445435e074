-- The laws of specs/, a file for each definition that they are about.
pub mod Widths
pub mod CharAt
pub mod Characters
pub mod Steps
pub mod Behind
pub mod ReadBack
pub mod BehindSteps
pub mod Part
