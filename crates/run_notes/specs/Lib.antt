pub mod AbsentLaws
pub mod AbsentSymbols
pub mod ItchNotes
pub mod NamedGaps
pub mod SessionNames
