-- The codes of faults in logs (this project's format).
use Rattle.std.specs.Prelude.{ℕ}
use Rattle.nbbo_book.specs.declared.fault.BookFault.{BookFault}
use Rattle.nbbo_book.specs.declared.fault.BookFault.TheVariants.{BadVenueCount, TooManySymbols, DuplicateSymbol, NoMemory}

abbrev pub book_fault_code : BookFault → ℕ
book_fault_code NoMemory = 12
book_fault_code BadVenueCount = 14
book_fault_code DuplicateSymbol = 15
book_fault_code TooManySymbols = 16
