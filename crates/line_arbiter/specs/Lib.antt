-- what a reader of the contracts has to know: the definitions over packets
pub mod Packets
pub mod Streams
pub mod Outcomes
pub mod Answered
pub mod Renewals
pub mod Skips
pub mod Histories
pub mod LastSent
pub mod Additions
pub mod Genuine
pub mod OfSession
pub mod SessionOrder
pub mod InOrder
-- an arbiter, and the packets and sessions that it fits
pub mod Counts
pub mod Holding
pub mod States
pub mod Fits
-- requests, printed numbers, and what laws alone cite
pub mod Pacing
pub mod Codes
pub mod Gaps
-- private clauses alone cite these
pub mod Filling
pub mod Marks
pub mod Comparing
pub mod Steps
pub mod Inside
-- laws, which proofs of the crates above cite
pub mod laws
