-- The laws of what the functions write, a file for each subject.
pub mod Writing
pub mod RepairCalls
pub mod Runs
pub mod RunCalls
