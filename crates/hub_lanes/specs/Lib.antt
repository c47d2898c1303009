-- what the consolidator's lock keeps, and its sections
pub mod Hubs
pub mod Sections
pub mod Batches
pub mod Offers
pub mod Turns
-- lanes that no subscriber has yet
pub mod Spares
