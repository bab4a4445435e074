-- `RepairText` says that the postlude's repair has the definition's text, for the crates above; `Laws` has what the functions'
-- proofs rest on.
pub mod RepairText
pub mod Laws
