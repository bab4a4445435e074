-- How the code holds what it reads before a cursor. No promise to a host rests on these.
pub mod Keys
pub mod Seen
pub mod Passed
pub mod Search
pub mod Ends
