use Rattle.std.proofs.Common.{◌≡◌, length}
use Rattle.venue_lines.specs.Starts.{AreStarts, names_by_venue, none_next}
use Rattle.venue_lines.proofs.starting.new_starts.Given as goal

abbrev pub invariant-loop-place : goal.invariant-loop-place
invariant-loop-place g l = AreStarts l.config.window l.config.lane l.starts.items l.receivers.items
    × (length l.receivers.items ≡ l.place)
    × (names_by_venue l.starts.items ≡ none_next l.place)
