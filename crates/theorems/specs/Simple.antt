-- The stages in a simpler form, on which the code's own contracts rest. Nothing here needs to be believed: that it equals what the
-- source answers is proved (proofs/Source).
pub mod Harmony
pub mod Grammar
pub mod Marks
pub mod Stage
pub mod NounMarks
pub mod Nouns
pub mod Pieces
pub mod Postlude
pub mod WholeRun
pub mod Tables
