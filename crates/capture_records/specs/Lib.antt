pub mod Capture
pub mod Kind
pub mod Formats
pub mod OwnFormats
pub mod OwnFormatLaws
-- laws, which proofs of the crates above cite
pub mod laws
