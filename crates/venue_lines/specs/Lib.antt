-- the numbers of faults in logs
pub mod Codes
-- what a venue's lock keeps, its sections, and what is counted of its lines
pub mod Brought
pub mod Seats
pub mod Cells
pub mod Sections
-- sessions that follow a venue's first one
pub mod NextSessions
-- sessions that are joined at their first packet
pub mod Joins
pub mod Datagrams
-- what the sources of lines bring
pub mod Sources
pub mod Statuses
-- a venue to which nothing came
pub mod Starts
-- laws, which proofs of the crates above cite
pub mod laws
