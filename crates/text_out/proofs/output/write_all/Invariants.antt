use Rattle.std.proofs.Common.{◌≡◌, ◌≤◌, ◌-◌, length, take}
use Rattle.text_out.proofs.output.write_all.Given as goal

abbrev pub invariant-loop-done : goal.invariant-loop-done
invariant-loop-done g l = record {
  taken : g.W.TextOut.adds l.fn.writer (take l.done l.text) l.writer;
  done : l.done ≤ length l.text;
  kept : g.W.TextOut.failures l.writer ≡ g.W.TextOut.failures l.fn.writer;
}

abbrev pub decreases-loop-done : goal.decreases-loop-done
decreases-loop-done g l = length l.text - l.done
