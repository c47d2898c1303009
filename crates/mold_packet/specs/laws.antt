-- Laws of the definitions, with their proofs, which nobody has to read: proofs of the crates above
-- cite them.
pub mod Cutting
pub mod HeaderFields
pub mod Spelling
pub mod OneReading
pub mod EveryReading
pub mod Growing
pub mod Overwriting
