-- Laws that belong to no one function; the functions' proofs rest on them.
pub mod Laws
