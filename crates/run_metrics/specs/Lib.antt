pub mod LineFigures
pub mod Metrics
pub mod Replies
