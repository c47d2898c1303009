pub mod Ranges
pub mod OwnSteps
