pub mod Listed
pub mod Apart
