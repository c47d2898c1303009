pub mod Devices
pub mod DeviceLaws
pub mod Members
pub mod Placing
pub mod Pages
pub mod StandardError
pub mod Fields
pub mod TextParts
-- laws, which proofs of the crates above cite
pub mod laws
