-- The settlement of a feed.
pub mod Rooms
pub mod Settlements
pub mod Closings
