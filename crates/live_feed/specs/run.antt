-- A run by threads.
pub mod Runs
-- a feed's whole life in one call
pub mod Wholes
