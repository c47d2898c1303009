use Rattle.std.proofs.Common.{ℕ, [], get_or, subst}
use Rattle.line_arbiter.specs.Histories.{new_history}
use Rattle.feed_text.specs.Following.{Follows}
use Rattle.feed_text.proofs.Telling.{follow_next}
use Rattle.feed_text.proofs.venues.ReplayVenues.new.Goals as goal

pub loop-place-preserved : goal.loop-place-preserved
loop-place-preserved c =
    let new = c.in_ok-venue.ensures in
    rw c.in_ok-push.ensures.items (follow_next c.args.window c.loop-place.venues.items
    c.args.sessions.now c.loop-place.place c.in_ok-venue.venue c.loop-place.invariant
    c.loop-place-test.true (subst (λ (n : ℕ). Follows c.args.window n c.in_ok-venue.venue
    (new_history (get_or c.args.sessions.now c.loop-place.place []))) c.at.ensures new))
