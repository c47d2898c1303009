use Rattle.std.proofs.Common.{rules, refl, inl, inr}
use Rattle.line_arbiter.proofs.arbiter.Arbiter.take_end.Goals as goal
use Rattle.line_arbiter.proofs.arbiter.Arbiter.take_end.Goals.{then-self-number-via-then-self-number, then-self-number-via-else-self-number+then-holds_from}

pub returns-then-self-number : goal.returns-then-self-number
returns-then-self-number g c = (
  refl,
  search rules,
  elim c.then-self-number.branch [
    | then-self-number-via-then-self-number w ↦ inl (rw (← c.self.view_is) w.if-self-number.true)
    | then-self-number-via-else-self-number+then-holds_from w ↦ inr
        (rw (← c.self.view_is) w.if-holds_from.ensures)
  ],
)
