pub mod Counting
pub mod FirstRows
pub mod TypePlaces
pub mod TypeSteps
pub mod TypeWords
