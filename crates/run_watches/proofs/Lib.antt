pub mod Counts
pub mod Looking
pub mod RunTelling
pub mod Telling
