-- The state of a subscriber.
pub mod KeptLogs
pub mod Logs
pub mod Asking
