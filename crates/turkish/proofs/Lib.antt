-- Words with their outcome, computed from the definitions, and the limit's number: enough to refuse a definition that says something else. Then
-- laws of the refusals' numbers, and that C's answers lose nothing. The theorems for every word are the crate `theorems`'.
pub mod Starred
pub mod NounWords
pub mod PieceWords
pub mod HeardWords
pub mod FoldWords
pub mod CallWords
pub mod Limit
pub mod OneToOne
