use Rattle.std.proofs.Common.{◌≡◌, ◌+◌, ◌≤◌, vec_len}
use Rattle.std.specs.Vec.{vec_capacity}
use Rattle.nbbo_book.proofs.Applying.{HasWalked}
use Rattle.nbbo_book.proofs.steps.recheck_rows.Given as goal

abbrev pub invariant-loop-i : goal.invariant-loop-i
invariant-loop-i l = record {
  walked : HasWalked l.step l.i l.initial.rows l.rows l.initial.out.items l.out.items;
  len : vec_len l.out ≤ vec_len l.initial.out + l.i;
  capacity : vec_capacity l.out ≡ vec_capacity l.initial.out;
}
