pub mod Brought
pub mod Outputs
pub mod Forms
pub mod Slots
pub mod Ends
pub mod Snapshots
pub mod States
pub mod Inside
