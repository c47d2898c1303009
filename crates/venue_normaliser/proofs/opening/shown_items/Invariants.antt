use Rattle.std.proofs.Common.{◌≡◌, flat_map, take}
use Rattle.venue_normaliser.specs.Outputs.{row_items}
use Rattle.venue_normaliser.proofs.opening.shown_items.Given as goal

abbrev pub invariant-loop-place : goal.invariant-loop-place
invariant-loop-place l = l.items.items ≡ flat_map row_items (take l.place l.book.rows)
