use Rattle.std.proofs.Common.{◌≡◌}
use Rattle.line_arbiter.proofs.Filling.{IsFilled}
use Rattle.line_arbiter.proofs.Turns.{IsAt}
use Rattle.line_arbiter.proofs.intake.fill_many.Given as goal

abbrev pub invariant-loop-i : goal.invariant-loop-i
invariant-loop-i l = record {
  can : (goal.iterator-loop-i).can_next l.i-iterator;
  finite : (goal.iterator-loop-i).is_finite l.i-iterator;
  at : IsAt l.packet l.i-iterator.count l.i-iterator.iter;
  base : l.window.base ≡ l.fn.window.base;
  width : l.window.width ≡ l.fn.window.width;
  filled : IsFilled l.i-iterator.count l.fn.window.base l.fn.window l.window l.packet l.count;
}
