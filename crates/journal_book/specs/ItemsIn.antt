-- The items of a venue in a list of entries.
use Rattle.std.specs.Prelude.{ℕ, ◌==◌, List, [], ◌∷◌, flat_map, if◌then◌else◌}
use Rattle.feed_types.specs.declared.item.Numbered.{Numbered}
use Rattle.feed_types.specs.declared.journal.Entry.{Entry}
use Rattle.feed_types.specs.declared.journal.Entry.TheVariants.{Consumed, SelfHelp}

-- the item that an entry consumed of the venue, if it did
abbrev pub item_by : ℕ → Entry → List Numbered
item_by venue (Consumed of numbered) = if of == venue then numbered ∷ [] else []
item_by venue (SelfHelp of on) = []

-- the venue's items in the entries, in order
abbrev pub items_in : List Entry → ℕ → List Numbered
items_in entries venue = flat_map (item_by venue) entries
