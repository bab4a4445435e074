-- What a front says of the words that it begins, and what the call on it and its tails gives.
pub mod Summary
pub mod BatchCalls
