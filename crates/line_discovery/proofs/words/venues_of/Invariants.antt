use Rattle.std.proofs.Common.{◌≡◌, flat_map, take}
use Rattle.line_discovery.specs.LineWords.{venue_found}
use Rattle.line_discovery.proofs.words.venues_of.Given as goal

abbrev pub invariant-loop-row : goal.invariant-loop-row
invariant-loop-row l = l.venues.items ≡ flat_map (venue_found l.rows) (take l.row-index l.rows)
