use Rattle.std.proofs.Common.{rules, arith}
use Rattle.hub_lanes.proofs.Offers.{all_offered, count_stays, none_yet, one_offered}
use Rattle.hub_lanes.proofs.calls.offer_each.Goals as goal

pub loop-place-init : goal.loop-place-init
loop-place-init g c = none_yet c.args.core.now

pub loop-place-preserved : goal.loop-place-preserved
loop-place-preserved g c =
    let stays = count_stays c.args.core.now c.loop-place.core c.loop-place.invariant.counts.kept in
    one_offered c.loop-place.place _ c.look_limit-to.result c.loop-place.offered
    c.offer_up_to-done.result.pushed
    c.saturating_add-offered.result c.loop-place.unfinished c.offer_up_to-done.result.unfinished
    c.args.core.now c.loop-place.core c.offer_up_to-done.new.core
    (search rules) (search (rules, arith, stays)) c.loop-place.invariant
    c.offer_up_to-done.ensures c.look_limit-to.ensures c.saturating_add-offered.ensures

pub returns : goal.returns
returns g c =
    all_offered _ c.loop-place.offered c.loop-place.unfinished c.args.core.now
    c.loop-place.core c.loop-place.invariant
    (search (rules, arith))
