-- Which configuration is refused, and why: the first reason that fits, in this order. Refused
-- memory comes last, but that of the table of symbols comes before a symbol that is there twice.
use Rattle.std.specs.Prelude.{ℕ, ◌≤◌, length}
use Rattle.std.specs.List.{IsDistinct}
use Rattle.std.specs.Str.{bytes_eq}
use Rattle.feed_types.specs.declared.config.FeedConfig.{FeedConfig}
use Rattle.journal_book.specs.Journals.{JournalState, new_journal}
use Rattle.journal_book.specs.declared.config_fault.ConfigFault.{ConfigFault}
use Rattle.journal_book.specs.declared.config_fault.ConfigFault.TheVariants.{BadVenueCount, BadWindow, BadCapacity, TooManySymbols, DuplicateSymbol}
use Rattle.journal_book.specs.declared.config_fault.CoreFault.{CoreFault}
use Rattle.journal_book.specs.declared.config_fault.CoreFault.TheVariants.{BadConfig, NoMemory}

abbrev pub IsBetween : ℕ → ℕ → ℕ → Type 0
IsBetween least most n = (least ≤ n) × (n ≤ most)

abbrev pub HasVenues : FeedConfig → Type 0
HasVenues config = IsBetween 1 16 (length config.sessions.now)

abbrev pub HasWindow : FeedConfig → Type 0
HasWindow config = IsBetween 1 65535 config.window

abbrev pub HasLanes : FeedConfig → Type 0
HasLanes config = IsBetween 1 65536 config.lane

-- everything but that no symbol is there twice
abbrev pub IsSized : FeedConfig → Type 0
IsSized config =
    HasVenues config × HasWindow config × HasLanes config × (length config.symbols.now ≤ 4096)

abbrev pub IsGood : FeedConfig → Type 0
IsGood config = IsSized config × IsDistinct bytes_eq config.symbols.now

abbrev pub IsBadConfig : FeedConfig → ConfigFault → Type 0
IsBadConfig config BadVenueCount = ¬ HasVenues config
IsBadConfig config BadWindow = HasVenues config × (¬ HasWindow config)
IsBadConfig config BadCapacity = HasVenues config × HasWindow config × (¬ HasLanes config)
IsBadConfig config TooManySymbols =
    HasVenues config × HasWindow config × HasLanes config × (4097 ≤ length config.symbols.now)
IsBadConfig config DuplicateSymbol = IsSized config × (¬ IsDistinct bytes_eq config.symbols.now)

-- the journal of a configuration, before an entry
abbrev pub journal_of_config : FeedConfig → JournalState
journal_of_config config =
    new_journal config.symbols.now (length config.sessions.now) config.journal

-- why there is no world
abbrev pub Explains : FeedConfig → CoreFault → Type 0
Explains config (BadConfig fault) = IsBadConfig config fault
Explains config NoMemory = IsSized config

-- the codes of the faults (this project's format)
abbrev pub config_fault_code : ConfigFault → ℕ
config_fault_code BadWindow = 13
config_fault_code BadVenueCount = 14
config_fault_code DuplicateSymbol = 15
config_fault_code TooManySymbols = 16
config_fault_code BadCapacity = 22

abbrev pub core_fault_code : CoreFault → ℕ
core_fault_code NoMemory = 12
core_fault_code (BadConfig fault) = config_fault_code fault
