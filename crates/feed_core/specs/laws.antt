-- Laws of the definitions, with their proofs, which nobody has to read: proofs of the crates above
-- cite them.
pub mod LaneMoves
pub mod KeptSubscribers
pub mod KeptTerms
pub mod KeptVenues
pub mod Lanes
pub mod SubscriberHalfLaw
pub mod VenueHalfLaw
pub mod WholeSessionsLaw
pub mod FirstNames
pub mod JournaledItems
pub mod HeadlineLaw
