pub mod Placed
pub mod Recordings
pub mod Written
