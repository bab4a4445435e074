-- Laws that belong to no one function; the functions' proofs rest on them, here and in the crates above.
pub mod Laws
pub mod Names
