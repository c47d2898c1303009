use Rattle.std.proofs.Common.{◌<◌, ◌≤◌, length, refl, ◌∙◌, rules}
use Rattle.std.proofs.Math.ListN.{length-set}
use Rattle.feed_core.proofs.WholeMachine.{shown_none, shown_next, shown_all}
use Rattle.feed_core.proofs.machine.finish_all.Goals as goal

pub loop-place-preserved : goal.loop-place-preserved
loop-place-preserved c =
    let lt : c.loop-place.place < length c.loop-place.states.items = search rules in
    record {
      count = length-set _ _ _ ∙ c.loop-place.invariant.count;
      shown = λ window vs f. shown_next window c.loop-place.place c.loop-place.states.items vs
          c.index_mut-state.result.now c.finish.new.self lt c.index_mut-state.ensures.value
          c.in_ok-finish.ensures (c.loop-place.invariant.shown window vs f);
    }

pub returns : goal.returns
returns c = λ window vs f.
    let past : length c.loop-place.states.items ≤ c.loop-place.place = search rules in
    shown_all window c.loop-place.place c.loop-place.states.items vs past
    (c.loop-place.invariant.shown window vs f)

pub loop-place-init : goal.loop-place-init
loop-place-init c = record { count = refl; shown = λ window vs f. shown_none window _ vs f }
