pub mod OneRequest
pub mod Packets
pub mod ReadsBack
