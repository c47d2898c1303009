use Rattle.std.proofs.Common.{ℕ, ◌+◌, ◌*◌, ◌<◌}
use Rattle.command_words.specs.Addresses.{IsAbsentAt}
use Rattle.command_words.proofs.addresses.has_bare_venue.Given as goal

abbrev pub invariant-loop-venue : goal.invariant-loop-venue
invariant-loop-venue l =
    (earlier : ℕ) → earlier < l.venue → IsAbsentAt l.lines (2 * earlier)
    → IsAbsentAt l.lines (2 * earlier + 1) → ⊥
