use Rattle.std.proofs.Common.{ℕ, ◌∙◌, length, ap, subst, arith}
use Rattle.std.specs.Prelude.{Ok}
use Rattle.line_arbiter.specs.Comparing.{HoldsAll}
use Rattle.line_arbiter.specs.Holding.{Held}
use Rattle.line_arbiter.specs.States.{State}
use Rattle.line_arbiter.specs.Steps.{MessagesStep, TakesIn}
use Rattle.line_arbiter.proofs.Filling.{fresh_most}
use Rattle.line_arbiter.specs.Inside.{arbiter_inside}
use Rattle.line_arbiter.proofs.NextHeld.{moved_from}
use Rattle.line_arbiter.proofs.Turns.{messages_some}
use Rattle.line_arbiter.proofs.Soundness.{sound_after}
use Rattle.line_arbiter.proofs.arbiter.Arbiter.take_in.Given.{Over}
use Rattle.line_arbiter.proofs.arbiter.Arbiter.take_in.Goals as goal
use Rattle.line_arbiter.proofs.arbiter.Arbiter.take_in.Goals.{After-add_wins, After-repeat_of}

-- the state before, with this window
before_with : (g : Over) → After-repeat_of g → Held → State
before_with g c window = record (arbiter_inside c.self.inside) {
  window = window.width;
  sent =
      window.base;
  places = window.places;
}

pub returns-in-Repeats : goal.returns-in-Repeats
unfolding before_with
returns-in-Repeats g c =
    let came = rw c.in-Repeats.is at c.take_all.ensures in
    let with = before_with g (goal.at.returns-in-Repeats g c).After-repeat_of in
    let after = with c.take_all.new.window in
    let step : MessagesStep c.args.line (with c.self.inside.held) after c.args.packet.now
    (Ok c.repeat_of.result) =
    subst (λ (w : Held). MessagesStep c.args.line (with w) after c.args.packet.now
    (Ok c.repeat_of.result)) came.0 (c.repeat_of.ensures.step c.args.line) in
    subst (λ (s : State). MessagesStep c.args.line s after c.args.packet.now
    (Ok c.repeat_of.result)) c.self.view_is step

module _ (g : Over) (c : After-add_wins g) where
  -- the state with the window and the cursor as they are after the filling
  at : ℕ → ℕ → State
  at width base = record (arbiter_inside c.self.inside) {
    window = width;
    sent = base;
    front = c.run_after-self-inside.result;
    known = c.raised-self-inside.result;
    places = c.take_all.new.window.places;
    wins = c.add_wins.new.wins;
  }

  old : State
  old = arbiter_inside c.self.inside

  came : HoldsAll c.self.inside.held c.take_all.new.window c.args.packet.now c.in-Holds.new
  came = rw c.in-Holds.is at c.take_all.ensures

  takes : TakesIn c.args.line c.in-Holds.new old (at c.take_all.new.window.width
      c.take_all.new.window.base) c.args.packet.now
  unfolding at old
  takes = record {
    held = came.after;
    from = c.run_after-self-inside.ensures.from;
    run = c.run_after-self-inside.ensures.run;
    stop = c.run_after-self-inside.ensures.stop;
    known = rw c.requires.last at c.raised-self-inside.ensures;
    wins = c.add_wins.ensures;
    others = ap (λ (width : ℕ). at width c.take_all.new.window.base) came.width
        ∙ ap (λ (base : ℕ). at c.self.inside.held.width base) came.base;
  }

pub overflow_sub-repeated : goal.overflow_sub-repeated
overflow_sub-repeated g c =
    let came = rw c.in-Holds.is at c.take_all.ensures in
    let k = came.counted in let n = c.count.ensures
    in omega (
      arith,
      fresh_most (length c.args.packet.now.messages) c.self.inside.held.base
          c.self.inside.held c.args.packet.now,
    )

pub invariant_of-self-2 : goal.invariant_of-self-2
unfolding at old
invariant_of-self-2 g c =
    let before = rw (← c.self.view_is) at c.requires.before in
    record {
      sound = sound_after c.args.line c.in-Holds.new _ _ c.args.packet.now c.self.invariant.sound
          before (takes g (goal.at.invariant_of-self-2 g c).After-add_wins);
      next = c.next_after-self-inside.ensures;
    }

pub next_after-self-inside-requires : goal.next_after-self-inside-requires
next_after-self-inside-requires g c =
    let came = rw c.in-Holds.is at c.take_all.ensures in
    let before = rw (← c.self.view_is) at c.requires.before in
    let past = rw (← c.self.view_is) at c.requires.past in
    let some = messages_some _ _ c.requires.kind c.number-first.ensures.content.fits in
    let run = c.run_after-self-inside.ensures in
    rw c.number-first.ensures.value (moved_from (arbiter_inside c.self.inside) c.take_all.new.window
    c.args.packet.now _ c.self.inside.next_held
    c.self.invariant.sound c.self.invariant.next some past before came.after came.base
    run.from run.run run.stop)

pub returns : goal.returns
unfolding at old
returns g c =
    let before = rw (← c.self.view_is) at c.requires.before in
    let within = rw (← c.self.view_is) at c.requires.within in
    let held = came g (goal.at.returns g c).After-add_wins in
    rw (← c.self.view_is) (
      takes g (goal.at.returns g c).After-add_wins,
      before,
      within,
      held.agrees,
      held.counted,
      let k = held.counted in let n = c.count.ensures
          in omega (
            arith,
            fresh_most (length c.args.packet.now.messages) c.self.inside.held.base
                c.self.inside.held c.args.packet.now,
          ),
    )
