pub mod Appending
pub mod Entering
