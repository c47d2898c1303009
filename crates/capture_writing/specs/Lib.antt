pub mod Checksums
pub mod Frames
