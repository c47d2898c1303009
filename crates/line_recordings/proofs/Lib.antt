pub mod Handing
pub mod Putting
pub mod Writing
