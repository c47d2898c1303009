use Rattle.std.proofs.Common.{◌≡◌, ℕ, ◌+◌, ◌<◌, true}
use Rattle.line_arbiter.specs.Packets.{message_item}
use Rattle.line_arbiter.specs.Filling.{HoldsNoOther}
use Rattle.line_arbiter.specs.Comparing.{IsThere}
use Rattle.line_arbiter.proofs.Turns.{IsAt}
use Rattle.line_arbiter.proofs.intake.compare_many.Given as goal

abbrev pub invariant-loop-i : goal.invariant-loop-i
invariant-loop-i l = record {
  can : (goal.iterator-loop-i).can_next l.i-iterator;
  finite : (goal.iterator-loop-i).is_finite l.i-iterator;
  at : IsAt l.packet l.i-iterator.count l.i-iterator.iter;
  there : l.all_there ≡ true → (k : ℕ) → k < l.i-iterator.count → IsThere l.window (l.first + k);
  agrees : (k : ℕ) → k < l.i-iterator.count
      → HoldsNoOther l.window (l.first + k) (message_item l.packet k);
}
