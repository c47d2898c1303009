pub mod Worlds
pub mod Steps
pub mod OneStep
pub mod Runs
pub mod VenueHalf
pub mod WholeSessions
pub mod SubscriberHalf
pub mod Headline
pub mod RefusedSkip
pub mod Dequeuing
pub mod LaneCode
pub mod Fitting
-- laws, which proofs of the crates above cite
pub mod laws
