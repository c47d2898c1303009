use Rattle.std.proofs.Common.{◌≡◌}
use Rattle.feed_text.proofs.venue.prefetch.Given as goal

abbrev pub invariant-loop : goal.invariant-loop
invariant-loop g l = l.output ≡ l.fn.output
