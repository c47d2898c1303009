use Rattle.std.proofs.Common.{◌≡◌, ℕ, ◌-◌, ◌<◌, ◌≤◌}
use Rattle.std.specs.Prelude.{not}
use Rattle.line_arbiter.specs.Marks.{is_marked}
use Rattle.line_arbiter.proofs.marks.first_number.Given as goal

abbrev pub invariant-loop-at : goal.invariant-loop-at
invariant-loop-at l = record {
  from : l.from ≤ l.at;
  to : l.at ≤ l.end;
  others : (m : ℕ) → l.from ≤ m → m < l.at → is_marked l.marks m ≡ not l.marked;
}

abbrev pub decreases-loop-at : goal.decreases-loop-at
decreases-loop-at l = l.end - l.at
