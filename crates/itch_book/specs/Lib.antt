pub mod Orders
pub mod Oddities
pub mod Bests
pub mod Rows
pub mod Books
pub mod Levels
pub mod Inside
pub mod Slots
