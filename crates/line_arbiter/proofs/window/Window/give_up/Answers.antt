use Rattle.std.proofs.Common.{◌∙◌, ◌+◌, ap, arith}
use Rattle.std.specs.Prelude.{nat_eq}
use Rattle.std.proofs.lemmas.Bool.{ne_eqb}
use Rattle.line_arbiter.specs.Holding.{Held, held_at}
use Rattle.line_arbiter.proofs.Soundness.{still}
use Rattle.line_arbiter.proofs.window.Window.give_up.Goals as goal

pub loop-self-preserved : goal.loop-self-preserved
loop-self-preserved c =
    let at = ap (λ (held : Held). held.base) c.self.view_is in
    let base = c.pass.ensures.base in
    let below = c.loop-self-test.true in
    record {
      low = omega arith;
      width = c.pass.ensures.width ∙ c.loop-self.invariant.width;
      kept = λ m past. c.pass.ensures.held m
          ∙ still (nat_eq m (c.loop-self.self.base + 1)) (held_at c.loop-self.self m)
          (ne_eqb m (c.loop-self.self.base + 1) (λ e. omega arith))
          ∙ c.loop-self.invariant.kept m (omega arith);
    }
