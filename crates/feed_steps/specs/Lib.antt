-- what an event does on its part of the world
pub mod Steps
-- what the lines may carry, and the parts of a venue's sessions
pub mod Premises
pub mod SessionParts
-- the lanes of a feed, its setting, and the sessions of its venues that are named
pub mod Lanes
-- laws, which proofs of the crates above cite
pub mod laws
