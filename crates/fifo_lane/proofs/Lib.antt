pub mod Counting
pub mod Moves
pub mod Nexts
