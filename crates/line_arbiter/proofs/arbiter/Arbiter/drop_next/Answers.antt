use Rattle.std.proofs.Common.{ℕ, ap, ◌∙◌}
use Rattle.line_arbiter.specs.Inside.{arbiter_inside}
use Rattle.line_arbiter.specs.States.{State}
use Rattle.line_arbiter.proofs.NextHeld.{next_advanced}
use Rattle.line_arbiter.proofs.Soundness.{sound_advanced}
use Rattle.line_arbiter.proofs.arbiter.Arbiter.drop_next.Goals as goal

pub invariant_of-self : goal.invariant_of-self
invariant_of-self g c =
    let i = c.self.inside in
    let at : ℕ → ℕ → State = λ width sent. record (arbiter_inside i) {
      window = width;
      sent = sent;
      places = c.pass.new.self.places;
    } in
    let ready = rw (← c.self.view_is) at c.requires in
    record {
      sound = sound_advanced (arbiter_inside i) (at c.pass.new.self.width c.pass.new.self.base)
          c.self.invariant.sound ready
          (ap (λ (width : ℕ). at width c.pass.new.self.base) c.pass.ensures.width
          ∙ ap (λ (base : ℕ). at i.held.width base) c.pass.ensures.base) c.pass.ensures.held;
      next = next_advanced (arbiter_inside i) c.pass.new.self i.next_held c.self.invariant.sound
          c.self.invariant.next c.pass.ensures.held;
    }
