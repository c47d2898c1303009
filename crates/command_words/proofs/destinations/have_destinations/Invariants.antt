use Rattle.std.proofs.Common.{◌≡◌, ◌<◌, true, ℕ}
use Rattle.std.specs.List.{list_any}
use Rattle.command_words.specs.Destinations.{is_destination}
use Rattle.command_words.proofs.destinations.have_destinations.Given as goal

abbrev pub invariant-loop-venue : goal.invariant-loop-venue
invariant-loop-venue l = (venue : ℕ) → venue < l.venue
    → list_any (is_destination venue) l.lines ≡ true
