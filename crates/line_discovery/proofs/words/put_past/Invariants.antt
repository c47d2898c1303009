use Rattle.std.proofs.Common.{◌≡◌, ◌++◌, flat_map, take}
use Rattle.line_discovery.specs.LineWords.{past_row}
use Rattle.line_discovery.proofs.words.put_past.Given as goal

abbrev pub invariant-loop-venue : goal.invariant-loop-venue
invariant-loop-venue l = l.text.items ≡ l.fn.text.items
    ++ flat_map past_row (take l.venue-index l.venues)
