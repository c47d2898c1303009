pub mod Events
pub mod Forms
pub mod Encoded
