-- Laws of the definitions, with their proofs, which nobody has to read.
pub mod Either
pub mod Normalised
