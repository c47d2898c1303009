use Rattle.std.proofs.Common.{ℕ, Option, refl, sym, subst, ap, arith}
use Rattle.std.specs.Prelude.{IsSome}
use Rattle.feed_types.specs.declared.item.Item.{Item}
use Rattle.line_arbiter.specs.Inside.{arbiter_inside}
use Rattle.line_arbiter.specs.States.{State}
use Rattle.line_arbiter.proofs.NextHeld.{skipped_from}
use Rattle.line_arbiter.proofs.Nexts.{none_from}
use Rattle.line_arbiter.proofs.Skipping.{sound_skip, unsent}
use Rattle.line_arbiter.proofs.arbiter.Arbiter.go_on_from.Goals as goal

pub give_up-requires-clause-past : goal.give_up-requires-clause-past
give_up-requires-clause-past g c =
    let open_ = rw (← c.self.view_is) at c.requires.open in
    let past = rw (← c.self.view_is) at c.requires.past in
    let k = unsent (arbiter_inside c.self.inside) c.args.number c.self.invariant.sound open_ past in
    omega arith

pub give_up-requires-clause-free : goal.give_up-requires-clause-free
give_up-requires-clause-free g c m low =
    let missing = rw (← c.self.view_is) at c.requires.missing in
    let past = c.requires.past in
    none_from _ (λ item is. let k = missing m (subst (λ (o : Option Item). IsSome o) (sym is) refl)
    in omega arith)

pub next_after-self-inside-requires : goal.next_after-self-inside-requires
next_after-self-inside-requires g c =
    let past = rw (← c.self.view_is) at c.requires.past in
    let base = c.give_up.ensures.base in
    skipped_from (arbiter_inside c.self.inside) c.give_up.new.self c.args.number _
    c.self.inside.next_held c.self.invariant.next past (omega arith)
    c.give_up.ensures.held c.run_end-self-inside.ensures.from

pub invariant_of-self : goal.invariant_of-self
invariant_of-self g c =
    let i = c.self.inside in
    let at : ℕ → State = λ width. record (arbiter_inside i) {
      window = width;
      sent =
          c.give_up.new.self.base;
      front = c.run_end-self-inside.result;
      known =
          c.raised-self-inside.result;
      places = c.give_up.new.self.places;
    } in
    let past = rw (← c.self.view_is) at c.requires.past in
    let base = c.give_up.ensures.base in
    let open_ = rw (← c.self.view_is) at c.requires.open in
    record {
      sound = sound_skip (arbiter_inside i) (at c.give_up.new.self.width) c.args.number
          c.self.invariant.sound open_ (record {
            sent = omega arith;
            held = c.give_up.ensures.held;
            from = let from = c.run_end-self-inside.ensures.from in omega arith;
            run = λ m low high. c.run_end-self-inside.ensures.run m (omega arith) high;
            stop = c.run_end-self-inside.ensures.stop;
            known = c.raised-self-inside.ensures;
            others = ap at c.give_up.ensures.width;
          });
      next = c.next_after-self-inside.ensures;
    }
