-- Laws that belong to no one function; the proofs of the calls rest on them.
pub mod Laws
