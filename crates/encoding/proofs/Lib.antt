-- Theorems and laws that belong to no one function. `Theorems` is to be opened first. `CheckExact` says that the check accepts exactly the
-- encodings of scalar values, `RunExact` that a plain run ends exactly where it is to; `Laws` has what they and the functions' proofs
-- rest on.
pub mod Theorems
pub mod CheckExact
pub mod RunExact
pub mod Laws
