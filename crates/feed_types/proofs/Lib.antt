pub mod Naming
pub mod Fields
pub mod FieldWords
pub mod Lanes
pub mod OfSessions
pub mod Fieldwise
