-- Counts of events.
pub mod Counts
