-- The changes that one more entry makes in the national best of the symbols.
use Rattle.std.specs.Prelude.{ℕ, Bool, true, false, ◌&&◌, ◌==◌, List, [], ◌∷◌, ◌++◌, Option, Some, None, if◌then◌else◌}
use Rattle.std.specs.List.{filter_map}
use Rattle.feed_types.specs.declared.journal.Entry.{Entry}
use Rattle.feed_types.specs.declared.national.Best.{Best}
use Rattle.feed_types.specs.declared.national.National.{National}
use Rattle.nbbo_book.specs.declared.change.Change.{Change}
use Rattle.nbbo_book.specs.Nationals.{national_of}

-- the same venue, price and size, or both none
abbrev pub is_same_best : Option Best → Option Best → Bool
is_same_best None None = true
is_same_best None (Some y) = false
is_same_best (Some x) None = false
is_same_best (Some x) (Some y) =
    (x.venue == y.venue) && ((x.price == y.price) && (x.size == y.size))

abbrev pub is_same_national : National → National → Bool
is_same_national x y = is_same_best x.bid y.bid && is_same_best x.offer y.offer

-- a symbol's change, where its national best differs from before
abbrev pub change_of : ℕ → List ℕ → National → National → Option Change
change_of position symbol before after =
    if is_same_national before after
    then None else Some (record { position = position; symbol = symbol; national = after })

-- The changes that one more entry makes, each with its position: one for each symbol whose national
-- best differs after it, in the order of the symbols.
abbrev pub changes_by : List (List ℕ) → List Entry → ℕ → Entry → List Change
changes_by symbols entries position entry =
    filter_map
    (λ symbol. change_of position symbol
    (national_of entries symbol) (national_of (entries ++ entry ∷ []) symbol))
    symbols
