use Rattle.std.proofs.Common.{◌≡◌, ℕ, ◌+◌, ◌-◌, sym, subst, rules, arith}
use Rattle.std.specs.Prelude.{◌⊎◌}
use Rattle.hub_lanes.proofs.Turns.{RoundUpTo, no_call, one_call, refused_call, round_over}
use Rattle.hub_lanes.proofs.turn.consume_round.Goals as goal

pub loop-step-init : goal.loop-step-init
loop-step-init g c =
    let premise = g.G.Genuine in
    let lanes = g.N.FeedName.lanes in
    let first = c.first_place-first in
    let old = c.args.core.now in
    let nothing = c.nothing-done.ensures in (
      omega (arith, nothing.none),
      nothing.sound,
      subst (λ (n : ℕ). RoundUpTo premise lanes first.result 0 n old old) (sym nothing.none)
          (no_call premise lanes first.result first.ensures old),
    )

pub loop-step-preserved : goal.loop-step-preserved
loop-step-preserved g c =
    let i = c.loop-step.invariant in
    let first = c.first_place-first in
    let step = c.loop-step.step in
    let consumed = c.loop-step.done.consumed in
    let venue = c.venue_after-venue in
    let place = subst (λ (n : ℕ). (venue.result ≡ first.result + step)
    ⊎ (venue.result + n ≡ first.result + step))
    c.venue_count-venues.ensures.lanes venue.ensures.place in (
      search (rules, arith),
      i.1,
      one_call g.G.Genuine g.N.FeedName.lanes first.result first.ensures step consumed
          c.args.core.now c.loop-step.core i.2 venue.result (64 - consumed) c.in-Ok.count
          c.consume_some.new.core (search (rules, arith)) (search (rules, arith)) place
          (search (rules, arith)) c.in-Ok.ensures.batch,
    )

pub returns-in-Err-clause-round : goal.returns-in-Err-clause-round
returns-in-Err-clause-round g c =
    let first = c.first_place-first in
    let consumed = c.loop-step.done.consumed in
    refused_call g.G.Genuine g.N.FeedName.lanes first.result first.ensures
    c.loop-step.step consumed c.args.core.now c.loop-step.core c.loop-step.invariant.2
    c.venue_after-venue.result (64 - consumed) c.in-Err.fault c.consume_some.new.core
    (search (rules, arith)) (search (rules, arith)) c.in-Err.ensures.batch

pub returns-after-loop-step-clause-round : goal.returns-after-loop-step-clause-round
returns-after-loop-step-clause-round g c =
    let i = c.loop-step.invariant in
    let first = c.first_place-first in
    let done = c.loop-step.done in
    round_over g.G.Genuine g.N.FeedName.lanes first.result first.ensures
    c.loop-step.step done.consumed c.args.core.now c.loop-step.core i.2 done.refused i.1
    (search (rules, arith))
