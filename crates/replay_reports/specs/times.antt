-- How packets run in time.
pub mod Figures
pub mod Places
pub mod Durations
pub mod DurationStats
pub mod Leads
pub mod Timing
pub mod VenueTiming
pub mod Busiest
