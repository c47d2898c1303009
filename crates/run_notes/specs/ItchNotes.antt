-- What is said of venues in ITCH. The texts are this project's own.
use Rattle.std.specs.Prelude.{ℕ, List, [], ◌∷◌, ◌++◌, codes}
use Rattle.event_sinks.specs.VenueGapTexts.{missing_texts}
use Rattle.event_sinks.specs.declared.venue_gap.VenueGap.{VenueGap}
use Rattle.itch_book.specs.declared.fault.BookFault.{BookFault}
use Rattle.itch_book.specs.declared.fault.BookFault.TheVariants.{DuplicateSymbol, NoMemory, TooManyOrders, TooManyShares, TooManySymbols}
use Rattle.run_notes.specs.NamedGaps.{named_venue_texts}
use Rattle.run_settings.specs.VenueNames.{venue_text}
use Rattle.run_settings.specs.declared.venue_names.VenueNames.{VenueNames}

-- of a gap that was given up which messages are missing, and that the venue is quoted no more
abbrev pub unquoted_texts : VenueNames → VenueGap → List (List ℕ)
unquoted_texts names gap =
    named_venue_texts names gap.venue
    ++ (missing_texts gap.messages ++ codes ", and is quoted no more\n" ∷ [])

abbrev pub book_fault_text : BookFault → List ℕ
book_fault_text TooManyOrders = codes " has more live orders than --orders\n"
book_fault_text TooManyShares = codes " would show more than 2^63 shares at a price\n"
book_fault_text TooManySymbols = codes " has too many symbols\n"
book_fault_text DuplicateSymbol = codes " has a symbol twice\n"
book_fault_text NoMemory = codes " has no memory for its orders\n"

-- why a venue's book has failed
abbrev pub book_fault_texts : VenueNames → ℕ → BookFault → List (List ℕ)
book_fault_texts names venue fault =
    codes "nbbo: venue " ∷ venue_text names venue ∷ book_fault_text fault ∷ []
