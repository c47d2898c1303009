-- Cited by private clauses alone: how the items of each venue are items_counted.
use Rattle.std.specs.Prelude.{◌≡◌, ℕ, ◌+◌, ◌<◌, List, length, slice_index, slice_set}
use Rattle.feed_types.specs.declared.journal.Entry.{Entry}
use Rattle.feed_types.specs.declared.journal.Entry.TheVariants.{Consumed, SelfHelp}
use Rattle.journal_book.specs.ItemsIn.{items_in}

-- the venue's count
abbrev pub item_count : List ℕ → ℕ → ℕ
item_count counts venue = slice_index counts venue

-- the counts with one more for the venue of the item that the entry consumes
abbrev pub items_counted : Entry → List ℕ → List ℕ
items_counted (Consumed venue numbered) counts = slice_set counts venue
    (item_count counts venue + 1)
items_counted (SelfHelp venue on) counts = counts

-- sixteen counts, of each venue how many items of it are in the entries
pub record AreCounts (counts : List ℕ) (entries : List Entry) : Type 0 where
  pub sixteen : length counts ≡ 16
  pub each : (venue : ℕ) → venue < 16 → item_count counts venue ≡ length (items_in entries venue)
