pub mod HubMoves
pub mod Sparing
pub mod OfSessions
pub mod Batches
pub mod LaneEnds
pub mod Offers
pub mod Turns
