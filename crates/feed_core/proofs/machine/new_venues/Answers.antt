use Rattle.std.proofs.Common.{ℕ, [], get_or, subst}
use Rattle.feed_core.specs.Worlds.{new_venue}
use Rattle.feed_core.specs.Fitting.{FitsVenue}
use Rattle.feed_core.proofs.WholeMachine.{fit_next}
use Rattle.feed_core.proofs.machine.new_venues.Goals as goal

pub loop-place-preserved : goal.loop-place-preserved
loop-place-preserved c =
    let new = c.in_ok-state.ensures in
    rw c.in_ok-push.ensures.items (fit_next c.args.window c.loop-place.states.items
    c.args.sessions.now c.loop-place.place c.in_ok-state.state c.loop-place.invariant
    c.loop-place-test.true (subst (λ (n : ℕ). FitsVenue c.args.window n c.in_ok-state.state
    (new_venue (get_or c.args.sessions.now c.loop-place.place []))) c.at.ensures new))
