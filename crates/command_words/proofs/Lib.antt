mod Chains
mod Following
mod ItchNaming
mod Listing
mod Naming
mod Spelling
pub mod CapturedLists
pub mod OptionReading
pub mod OptionTables
pub mod PeriodReading
pub mod Refusing
pub mod SnapshotNaming
pub mod Subcommands
pub mod TimeReading
mod VenueNaming
pub mod Windows
