-- The symbols and numbers of venues that a book is made for, and why others are refused: the first
-- reason that fits, in this order. Refused memory comes last, but that of the table of symbols
-- comes before a symbol that is there twice.
use Rattle.std.specs.Prelude.{◌≡◌, ◌⊎◌, ℕ, ◌<◌, ◌≤◌, List, length, Result, Ok, Err}
use Rattle.std.specs.List.{IsDistinct}
use Rattle.std.specs.Str.{bytes_eq}
use Rattle.nbbo_book.specs.declared.fault.BookFault.{BookFault}
use Rattle.nbbo_book.specs.declared.fault.BookFault.TheVariants.{BadVenueCount, TooManySymbols, DuplicateSymbol, NoMemory}

-- 1 to 16
abbrev pub IsVenueCount : ℕ → Type 0
IsVenueCount venues = (0 < venues) × (venues ≤ 16)

-- this many venues, and not too many symbols
abbrev pub IsSizedBook : List (List ℕ) → ℕ → Type 0
IsSizedBook symbols venues = IsVenueCount venues × (length symbols ≤ 4096)

-- why there is no book over these symbols and this many venues
abbrev pub HasBookFault : List (List ℕ) → ℕ → BookFault → Type 0
HasBookFault symbols venues BadVenueCount = (venues ≡ 0) ⊎ (16 < venues)
HasBookFault symbols venues TooManySymbols = IsVenueCount venues × (4096 < length symbols)
HasBookFault symbols venues DuplicateSymbol =
    IsSizedBook symbols venues × (¬ IsDistinct bytes_eq symbols)
HasBookFault symbols venues NoMemory = IsSizedBook symbols venues

-- The answer of a call that makes a book, or what has one in it, over these symbols and this many
-- venues: what is made has sizes that are allowed and each symbol once, and a fault is the first
-- that fits.
abbrev pub ConfiguresBook : {T : Type 0} → List (List ℕ) → ℕ → Result T BookFault → Type 0
ConfiguresBook symbols venues (Ok made) =
    IsSizedBook symbols venues × IsDistinct bytes_eq symbols
ConfiguresBook symbols venues (Err fault) = HasBookFault symbols venues fault
