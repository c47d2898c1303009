use Rattle.std.proofs.Common.{sym, ◌∙◌, arith}
use Rattle.line_arbiter.specs.Inside.{arbiter_inside}
use Rattle.line_arbiter.proofs.Soundness.{none_next, some_next}
use Rattle.line_arbiter.proofs.Windows.{not_some}
use Rattle.line_arbiter.proofs.arbiter.Arbiter.first_held.Goals as goal

pub returns-then-base-self-clause-value : goal.returns-then-base-self-clause-value
returns-then-base-self-clause-value g c = rw (← c.self.view_is) (sym (none_next
    (arbiter_inside c.self.inside) c.self.invariant.sound
    (omega (arith, c.if-base-self.true, c.base.ensures))))

pub unreachable-requires : goal.unreachable-requires
unreachable-requires g c = not_some _ (sym c.first.ensures.value ∙ c.in_default.is) (some_next
    (arbiter_inside c.self.inside) c.self.invariant.sound
    (omega (arith, c.if-base-self.false, c.base.ensures)))
