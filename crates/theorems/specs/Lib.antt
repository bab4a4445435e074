-- What the theorems speak of besides the definitions of `turkish`: the stages in a simpler form, the terms of demand 3, those of the theorems on
-- pieces, on the vowels that harmony found and on nouns, and the calls' answers laid out.
-- `Simple` need not be believed, but for the partners and marks that the terms of the theorems on harmony name, and `to_first`, by which a vowel has
-- its number in a summary
pub mod Simple
pub mod Fronts
pub mod PieceTerms
pub mod HeardTerms
pub mod NounParts
pub mod Replies
