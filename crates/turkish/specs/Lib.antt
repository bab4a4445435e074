-- What the calls give, in reading order: letters and lines, turkish.sbl's commands, its routines as the Rust's comments carry them, what they
-- answer for a word, the vowels that harmony found, the marks that they keep, the pass and the fold, the calls with their refusals, and those on
-- pieces; then the refusals' numbers, and what C gets of a call's result. The call on a front and its tails stands in the crate `batches`.
-- A word is read from its end: a list of characters (code points) has the one nearest the cursor first.
pub mod Letters
pub mod Lines
pub mod Snowball
pub mod Source
pub mod Answers
pub mod Vowels
pub mod Heard
pub mod Pieces
pub mod WordPass
pub mod Fold
pub mod Calls
pub mod PieceCalls
pub mod Refusals
pub mod Results
