pub mod BestRowMakers
pub mod counts
pub mod times
pub mod stats
pub mod report
