pub mod SameKeys
pub mod Growth
pub mod Reading
pub mod Putting
pub mod ThreeRows
pub mod RowPlaces
