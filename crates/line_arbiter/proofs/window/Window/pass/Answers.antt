use Rattle.std.proofs.Common.{◌≡◌, ℕ, ◌+◌, Option, ap, ◌∙◌, arith}
use Rattle.std.specs.Prelude.{is_some}
use Rattle.std.specs.Option.{option_and_then}
use Rattle.feed_types.specs.declared.item.Item.{Item}
use Rattle.line_arbiter.specs.Holding.{in_place}
use Rattle.line_arbiter.specs.Inside.{window_inside}
use Rattle.line_arbiter.proofs.Counting.{one_if}
use Rattle.line_arbiter.proofs.Windows.{IsBitmap-pass, IsHeld-pass, first_place, held_at-pass, next_fits}
use Rattle.line_arbiter.proofs.window.Window.pass.Goals as goal
use Rattle.line_arbiter.proofs.window.Window.pass.Goals.{After-is_held}

-- what is no longer counted
first_counts : (c : After-is_held)
    → one_if c.is_held.result ≡ one_if (is_some (in_place c.self.inside.places.items 0))
first_counts c =
    ap one_if c.is_held.ensures
    ∙ ap (λ (o : Option (Option Item)). one_if
    (is_some (option_and_then (λ (place : Option Item). place) o)))
    c.pop_front-first.ensures.value

pub invariant_of-self : goal.invariant_of-self
invariant_of-self c =
    let n = first_counts (goal.at.invariant_of-self c).After-is_held in
    let held = c.self.invariant.held in
    let within = held.within in
    let most = held.most in
    let otherwise = rw (← c.self.view_is) at c.requires in
    let small = next_fits _ _ held otherwise in
    rw c.pop_front-first.ensures.items (record {
      held = IsHeld-pass c.self.inside.held_items _ _ held
          (c.without_gone-self-inside.ensures
          ∙ ap (λ (k : ℕ). c.without_gone-self-inside.result + k) n) small;
      marks = IsBitmap-pass _ _ _ c.self.invariant.marks (omega arith)
          c.unmark.ensures.words c.unmark.ensures.here
          c.unmark.ensures.others;
    })

pub returns-clause-held : goal.returns-clause-held
returns-clause-held c m =
    rw (← c.self.view_is, c.pop_front-first.ensures.items)
    (held_at-pass (window_inside c.self.inside) m)

pub returns-clause-value : goal.returns-clause-value
returns-clause-value c = rw (← c.self.view_is) (c.held_in.ensures
    ∙ ap (λ (o : Option (Option Item)). option_and_then (λ (place : Option Item). place) o)
    c.pop_front-first.ensures.value ∙ first_place (window_inside c.self.inside))
