-- The codes of faults in logs (this project's format).
use Rattle.std.specs.Prelude.{ℕ}
use Rattle.journal_book.specs.declared.fault.JournalFault.{JournalFault}
use Rattle.journal_book.specs.declared.fault.JournalFault.TheVariants.{NoMemory, JournalFull, UnknownVenue, AlreadySo, TooManySubscribers, SubscriberBehind, TooLate}

abbrev pub journal_fault_code : JournalFault → ℕ
journal_fault_code NoMemory = 12
journal_fault_code JournalFull = 17
journal_fault_code UnknownVenue = 18
journal_fault_code AlreadySo = 19
journal_fault_code TooManySubscribers = 20
journal_fault_code SubscriberBehind = 51
journal_fault_code TooLate = 64
