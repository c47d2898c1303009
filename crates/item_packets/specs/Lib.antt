pub mod Carried
pub mod Filled
pub mod Openings
pub mod Packed
pub mod laws
