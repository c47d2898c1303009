use Rattle.std.proofs.Common.{◌≡◌, ◌++◌, take}
use Rattle.line_discovery.specs.LineWords.{more_lines}
use Rattle.line_discovery.proofs.words.put_more_lines.Given as goal

abbrev pub invariant-loop-venue : goal.invariant-loop-venue
invariant-loop-venue l = l.text.items ≡ l.fn.text.items
    ++ more_lines (take l.venue-index l.venues)
