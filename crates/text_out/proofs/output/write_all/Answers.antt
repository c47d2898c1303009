use Rattle.std.proofs.Common.{rules}
use Rattle.std.proofs.lemmas.List.{take_rest}
use Rattle.text_out.proofs.Calls.{adds_more, adds_done}
use Rattle.text_out.proofs.output.write_all.Goals as goal

pub loop-done-preserved : goal.loop-done-preserved
loop-done-preserved g c = record {
  taken = adds_more _ g.met.W.TextOut.adds_more _ _ _ _ _ _ _ (take_rest c.args.text.now
      c.loop-done.done) c.loop-done.invariant.taken c.in-Ok.ensures.adds;
  done = search rules;
  kept = search rules;
}

pub returns-in-Err-clause-part : goal.returns-in-Err-clause-part
returns-in-Err-clause-part g c = record {
  count = c.loop-done.done;
  taken =
      adds_done _ g.met.W.TextOut.adds_more _ _ _ _ c.loop-done.invariant.taken
      c.in-Err.ensures.untaken;
}
