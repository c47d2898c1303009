use Rattle.std.proofs.Common.{arith, true, ℕ, ◌≡◌}
use Rattle.line_gaps.specs.Runs.{is_in_runs}
use Rattle.line_gaps.proofs.RunOrders.{absent, added_below, outside_below, taken_below}
use Rattle.line_gaps.proofs.RunLemmas.{outside_more}
use Rattle.line_gaps.proofs.number_runs.NumberRuns.add_outside.Goals as goal

pub loop-run-preserved : goal.loop-run-preserved
loop-run-preserved c =
    let kept = c.loop-run.invariant.dropped in
    let below = c.add_below.ensures.dropped in
    let above = c.add_above.ensures.dropped in
    record {
      dropped = omega (arith, kept, below, above);
      has = λ none n.
          outside_more _ _ _ _ n c.args.runs.now c.loop-run.run-index c.args.cut _
          c.loop-run-test.true (c.loop-run.invariant.has (omega (arith, none, below, above)) n)
          (c.add_below.ensures.has (omega (arith, none, above)) n)
          (c.add_above.ensures.has none n);
      order = λ none empty whole order.
          let few : c.add_below.new.self.dropped ≡ 0 = omega (arith, none, above) in
          let least : c.loop-run.self.dropped ≡ 0 = omega (arith, none, above, below) in
          let runs = c.args.runs.now in
          let i = c.loop-run.run-index in
          let was = λ (n : ℕ) (e : is_in_runs n c.loop-run.self.runs.items ≡ true).
          added_below n _ _ _ _ _ (c.loop-run.invariant.has least n)
          (λ f. absent n _ _ empty f)
          (taken_below runs i _ n order c.loop-run-test.true) e in
          c.add_above.ensures.order none
          (c.add_below.ensures.order few
          (c.loop-run.invariant.order least empty whole order) was)
          (λ n e. outside_below n _ _ _ _ _ _ (c.add_below.ensures.has few n) (was n) whole e);
    }
