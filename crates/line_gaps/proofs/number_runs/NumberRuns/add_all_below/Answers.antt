use Rattle.std.proofs.Common.{◌≡◌, arith}
use Rattle.line_gaps.proofs.RunOrders.{added_below, below_more, first_is_in, taken_below}
use Rattle.line_gaps.proofs.number_runs.NumberRuns.add_all_below.Goals as goal

pub loop-run-preserved : goal.loop-run-preserved
loop-run-preserved c =
    let kept = c.loop-run.invariant.dropped in
    let more = c.add_below.ensures.dropped in
    let runs = c.args.runs.now in
    let i = c.loop-run.run-index in
    let within = c.loop-run-test.true in
    record {
      dropped = omega (arith, kept, more);
      has = λ none n.
          below_more _ _ _ n runs i _ _ within
          (c.loop-run.invariant.has (omega (arith, none, more)) n) (c.add_below.ensures.has none n);
      order = λ none old order apart.
          let least : c.loop-run.self.dropped ≡ 0 = omega (arith, none, more) in
          c.add_below.ensures.order none (c.loop-run.invariant.order least old order apart)
          (λ n e. added_below n _ _ _ _ _ (c.loop-run.invariant.has least n)
          (λ f. apart n _ f (first_is_in runs i _ order within))
          (taken_below runs i _ n order within) e);
    }
