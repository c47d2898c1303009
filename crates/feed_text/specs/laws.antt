-- Laws of the definitions, with their proofs, which nobody has to read: proofs of the crates above
-- cite them.
pub mod Entries
pub mod VenueItemsLaw
