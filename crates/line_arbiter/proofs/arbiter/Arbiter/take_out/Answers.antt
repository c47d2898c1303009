use Rattle.std.proofs.Common.{◌+◌, arith, subst}
use Rattle.std.specs.Prelude.{IsSome}
use Rattle.line_arbiter.specs.Holding.{held_at}
use Rattle.line_arbiter.specs.Inside.{arbiter_inside}
use Rattle.line_arbiter.specs.States.{State, held_of}
use Rattle.line_arbiter.proofs.Soundness.{some_next}
use Rattle.line_arbiter.proofs.arbiter.Arbiter.take_out.Goals as goal

pub take_held-requires-clause-held : goal.take_held-requires-clause-held
take_held-requires-clause-held g c =
    subst (λ (s : State). IsSome (held_at (held_of s) (s.sent + 1))) c.self.view_is (some_next
    (arbiter_inside c.self.inside) c.self.invariant.sound
    (omega (arith, c.if-base-self.true, c.base.ensures)))
