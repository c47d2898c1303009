-- The items of a venue among emitted events.
use Rattle.std.specs.Prelude.{ℕ, ◌==◌, List, [], ◌∷◌, flat_map, if◌then◌else◌}
use Rattle.feed_types.specs.declared.item.Numbered.{Numbered}
use Rattle.feed_text.specs.ReplayEvents.{ReplayEvent, item_taken}

-- the item that an event takes of a venue, if it does
abbrev pub taken_by : ℕ → ReplayEvent → List Numbered
taken_by place (item_taken venue numbered) = if venue == place then numbered ∷ [] else []
taken_by place _ = []

-- the items that were emitted of a venue, in order
abbrev pub items_taken : ℕ → List ReplayEvent → List Numbered
items_taken place emitted = flat_map (taken_by place) emitted
