pub mod CursorMoving
pub mod Adding
pub mod LettingGo
pub mod NextPlaces
pub mod Offering
pub mod Counting
