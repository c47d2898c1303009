-- The numbered changes of the national best over a journal.
use Rattle.std.specs.Prelude.{ℕ, ◌+◌, ◌-◌, ◌<◌, List, [], ◌∷◌, length, take, drop}
use Rattle.std.specs.List.{filter_map, flat_map, range_with_len}
use Rattle.feed_types.specs.declared.journal.Entry.{Entry}
use Rattle.feed_types.specs.declared.journal.Notice.{Notice}
use Rattle.nbbo_book.specs.declared.change.Change.{Change}
use Rattle.nbbo_book.specs.Changes.{change_of}
use Rattle.nbbo_book.specs.Nationals.{national_of}

-- The changes at a position, which counts from 1: one for each symbol, in order, whose national
-- best differs between the entries up to that position and those before it.
abbrev pub changes_at : List (List ℕ) → List Entry → ℕ → List Change
changes_at symbols entries position =
    filter_map
    (λ symbol. change_of position symbol
    (national_of (take (position - 1) entries) symbol)
    (national_of (take position entries) symbol))
    symbols

-- the changes of each position in turn
abbrev pub all_changes : List (List ℕ) → List Entry → List Change
all_changes symbols entries =
    flat_map (changes_at symbols entries) (range_with_len 1 (length entries))

-- a change with its number
abbrev pub notice_of : ℕ → Change → Notice
notice_of number change =
    record {
      number = number;
      position = change.position;
      symbol = change.symbol;
      national = change.national;
    }

-- the changes, numbered from this number on
abbrev pub notices_from : ℕ → List Change → List Notice
notices_from number [] = []
notices_from number (change ∷ changes) =
    notice_of number change ∷ notices_from (number + 1) changes

-- the changes of the national best over a journal of these entries, numbered from 1
abbrev pub changes_of : List (List ℕ) → List Entry → List Notice
changes_of symbols entries = notices_from 1 (all_changes symbols entries)

-- the notices that came with the entries after the old ones
abbrev pub notices_since : List (List ℕ) → List Entry → List Entry → List Notice
notices_since symbols old new = drop (length (changes_of symbols old)) (changes_of symbols new)

-- the numbers of the notices rise strictly, from past this one
abbrev pub RisesPast : ℕ → List Notice → Type 0
RisesPast number [] = Unit {0}
RisesPast number (notice ∷ notices) = (number < notice.number) × RisesPast notice.number notices
