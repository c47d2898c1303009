pub mod EachFrame
pub mod Finding
pub mod Packets
pub mod Converting
