pub mod Codes
pub mod Lane
pub mod Passes
pub mod Rising
