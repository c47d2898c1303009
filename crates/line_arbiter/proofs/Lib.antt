-- values and counts
pub mod Counting
-- the definitions over a list of packets
pub mod Winning
-- a window
pub mod Marking
pub mod Places
pub mod Windows
pub mod Turns
pub mod Filling
-- an arbiter that fits its packets
pub mod Standing
pub mod Cursors
pub mod Known
pub mod Soundness
pub mod NextHeld
pub mod NextGenuine
pub mod Nexts
pub mod Ending
pub mod Gaps
pub mod HeldCounts
pub mod LineCounts
-- one more packet
pub mod Repeating
pub mod Growth
pub mod Answering
pub mod PacketSteps
pub mod Passing
pub mod Ordering
pub mod Skipping
-- the history of a venue
-- genuine packets, and the laws
pub mod Naming
pub mod GapLaws
pub mod Messages
