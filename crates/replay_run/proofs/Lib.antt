pub mod ListPlaces
pub mod EmittedEvents
pub mod Drains
pub mod RecordRuns
pub mod RunSessions
pub mod RunSkips
pub mod RunItems
pub mod Runs
pub mod FullRuns
mod Coming
pub mod ToldJournals
pub mod Tells
pub mod Prints
