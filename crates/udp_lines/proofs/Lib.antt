pub mod Hearing
pub mod Judging
pub mod Meeting
pub mod Seeing
pub mod Waiting
