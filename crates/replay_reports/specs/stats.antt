-- The statistics of a replay.
pub mod Statistics
pub mod StatsSinks
pub mod StatsLaws
