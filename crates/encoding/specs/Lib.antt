-- What a reader must believe of bytes: Scalar, Encoding and Text. That the check, Validity, accepts exactly the texts is a theorem
-- (accepts-exactly), and laws say that it may be made as the code makes it: Neighbours, and in parts with plain runs skipped, PlainRuns,
-- Walked and Parts.
pub mod Scalar
pub mod Encoding
pub mod Text
pub mod Validity
pub mod Neighbours
pub mod PlainRuns
pub mod Walked
pub mod Parts
