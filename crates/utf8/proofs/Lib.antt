-- Theorems and laws that belong to no one function. `Theorems` is to be opened first. `TextCharacters` says what the characters of a text
-- are, `WholeCharacters` that a step takes a whole one and stays within the limits, `WholeLiterals` the same of a literal; `Laws` has what
-- these and the functions' proofs rest on.
pub mod Theorems
pub mod TextCharacters
pub mod WholeCharacters
pub mod WholeLiterals
pub mod Laws
