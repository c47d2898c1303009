pub mod Block
pub mod Body
pub mod Bytes
pub mod Content
pub mod Faults
pub mod Header
pub mod Packet
pub mod Request
pub mod Writing
-- laws, which proofs of the crates above cite
pub mod laws
