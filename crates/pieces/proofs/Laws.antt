-- The laws of the pieces as the code makes them, a file for each thing that they are about.
pub mod Trails
pub mod Entries
pub mod Removed
pub mod Calls
