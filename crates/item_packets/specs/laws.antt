-- Laws of the definitions, with their proofs, which nobody has to read: proofs of the crates above
-- cite them.
pub mod Adding
pub mod Opened
pub mod Parts
pub mod Rows
