use Rattle.std.proofs.Common.{◌≡◌, ℕ, ◌+◌, ◌<◌, ◌≤◌, Some, ap, subst, sym, ◌∙◌, arith}
use Rattle.std.specs.Prelude.{IsSome}
use Rattle.line_arbiter.specs.Holding.{Held, held_at}
use Rattle.line_arbiter.specs.States.{State, held_of}
use Rattle.line_arbiter.specs.laws.StreamGrowth.{stream_skips}
use Rattle.line_arbiter.proofs.Skipping.{all_sent, front_past, has_below, not_sent, skip_fits, skip_may}
use Rattle.line_arbiter.proofs.arbiter.Arbiter.skip_to.Goals as goal

pub returns-then-has_ready-clause-answer : goal.returns-then-has_ready-clause-answer
returns-then-has_ready-clause-answer g c packets fits all = not_sent _ packets
    c.has_ready.ensures.sound fits c.if-has_ready.ensures.value all

pub returns-then-ends_below-clause-answer : goal.returns-then-ends_below-clause-answer
returns-then-ends_below-clause-answer g c packets fits =
    let below = c.if-ends_below.ensures in
    let end = sym (ap (λ (s : State). s.end) c.self.view_is ∙ fits.end) in (
      all_sent _ packets c.has_ready.ensures.sound fits c.if-has_ready.ensures.value,
      (below.0, end ∙ below.1, below.2),
    )

pub returns-then-saturating_sub-self-clause-answer :
    goal.returns-then-saturating_sub-self-clause-answer
returns-then-saturating_sub-self-clause-answer g c packets fits =
    let open_ = subst (λ (s : State). (e : ℕ) → s.end ≡ Some e → c.args.number ≤ e) c.self.view_is
    c.if-ends_below.ensures in
    let front = ap (λ (s : State). s.front) c.self.view_is ∙ fits.front in
    let n = c.saturating_sub.ensures in
    let low = c.if-saturating_sub-self.true in (
      all_sent _ packets c.has_ready.ensures.sound fits c.if-has_ready.ensures.value,
      λ e is. open_ e (fits.end ∙ is),
      omega arith,
    )

pub returns-then-holds_below-clause-answer : goal.returns-then-holds_below-clause-answer
returns-then-holds_below-clause-answer g c packets fits =
    let none = c.if-has_ready.ensures.value in
    let sound = c.has_ready.ensures.sound in
    let open_ = subst (λ (s : State). (e : ℕ) → s.end ≡ Some e → c.args.number ≤ e) c.self.view_is
    c.if-ends_below.ensures in
    let front = ap (λ (s : State). s.front) c.self.view_is in
    let n = c.saturating_sub.ensures in
    let high = c.if-saturating_sub-self.false in
    let past : c.args.self.now.front + 1 < c.args.number = omega arith in
    let below = c.if-holds_below.ensures in
    let held = ap (λ (s : State). held_of s) c.self.view_is in (
      all_sent _ packets sound fits none,
      λ e is. open_ e (fits.end ∙ is),
      front_past _ packets c.args.number sound fits none open_ past,
      has_below _ packets c.args.number sound fits none open_ past below.0 below.1
          (subst (λ (h : Held). IsSome (held_at h below.0)) held below.2),
    )

pub returns-clause-answer : goal.returns-clause-answer
returns-clause-answer g c packets fits =
    let none = c.if-has_ready.ensures.value in
    let sound = c.has_ready.ensures.sound in
    let open_ = subst (λ (s : State). (e : ℕ) → s.end ≡ Some e → c.args.number ≤ e) c.self.view_is
    c.if-ends_below.ensures in
    let front = ap (λ (s : State). s.front) c.self.view_is in
    let n = c.saturating_sub.ensures in
    let high = c.if-saturating_sub-self.false in
    let past : c.args.self.now.front + 1 < c.args.number = omega arith in
    let held = ap (λ (s : State). held_of s) c.self.view_is in
    let missing = subst (λ (h : Held). (m : ℕ) → IsSome (held_at h m) → c.args.number ≤ m) held
    c.if-holds_below.ensures in (
      all_sent _ packets sound fits none,
      skip_may _ packets c.args.number sound fits
          none open_ past missing,
    )

pub returns-clause-fits : goal.returns-clause-fits
returns-clause-fits g c packets fits =
    let none = c.if-has_ready.ensures.value in
    let sound = c.has_ready.ensures.sound in
    let open_ = subst (λ (s : State). (e : ℕ) → s.end ≡ Some e → c.args.number ≤ e) c.self.view_is
    c.if-ends_below.ensures in
    let front = ap (λ (s : State). s.front) c.self.view_is in
    let n = c.saturating_sub.ensures in
    let high = c.if-saturating_sub-self.false in
    let past : c.args.self.now.front + 1 < c.args.number = omega arith in
    let held = ap (λ (s : State). held_of s) c.self.view_is in
    let missing = subst (λ (h : Held). (m : ℕ) → IsSome (held_at h m) → c.args.number ≤ m) held
    c.if-holds_below.ensures in
    skip_fits _ packets c.args.number sound fits none open_ past missing _
    c.go_on_from.ensures.after

pub returns-clause-grows : goal.returns-clause-grows
returns-clause-grows g c packets fits = stream_skips packets c.args.number
