pub mod EntriesNoted
pub mod FirstAbsent
pub mod SymbolKeys
