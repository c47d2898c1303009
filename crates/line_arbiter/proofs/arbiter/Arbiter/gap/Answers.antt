use Rattle.std.proofs.Common.{◌≡◌, ◌+◌, ◌-◌, ◌∙◌, None, Some, ap, sym, subst, arith, inl, inr}
use Rattle.std.specs.Prelude.{min}
use Rattle.line_arbiter.specs.Fits.{Fits}
use Rattle.line_arbiter.specs.Inside.{arbiter_inside}
use Rattle.line_arbiter.specs.States.{State}
use Rattle.line_arbiter.specs.Streams.{gap_of}
use Rattle.line_arbiter.proofs.Gaps.{asked_within, gap_of-none, gap_of-some, last_asked}
use Rattle.line_arbiter.proofs.arbiter.Arbiter.gap.Given.{Over}
use Rattle.line_arbiter.proofs.arbiter.Arbiter.gap.Goals as goal
use Rattle.line_arbiter.proofs.arbiter.Arbiter.gap.Goals.{Joined-self, in-Some, in-None}

module _ (g : Over) (c : Joined-self g) where
  last_is : c.match-self.last ≡ last_asked c.min-limit.result c.self.inside.next_held
  last_is = elim c.match-self.branch [
    | in-Some w ↦ w.last-is ∙ w.min-last.ensures
        ∙ ap (last_asked c.min-limit.result) (sym w.in-Some.is)
    | in-None w ↦ w.last-is ∙ ap (last_asked c.min-limit.result) (sym w.in-None.is)
  ]

  limit_is : c.min-limit.result ≡ min c.self.inside.known_to
      (c.self.inside.held.base + c.self.inside.held.width)
  limit_is = let l = c.min-limit.ensures in let r = c.reach.ensures.value in omega arith

pub returns-then-last-self : goal.returns-then-last-self
returns-then-last-self g c packets fits =
    let at = (goal.at.returns-then-last-self g c).Joined-self in
    let inside = subst (λ (s : State). Fits s packets) (sym c.self.view_is) fits in
    subst (λ (s : State). None ≡ gap_of s.session s.window s.sent packets) c.self.view_is
    (gap_of-none (arbiter_inside c.self.inside) packets _ _ _ c.self.invariant.sound inside
    c.self.invariant.next (limit_is g at) (last_is g at) c.if-last-self.true)

pub returns : goal.returns
returns g c packets fits =
    let at = (goal.at.returns g c).Joined-self in
    let inside = subst (λ (s : State). Fits s packets) (sym c.self.view_is) fits in
    subst (λ (s : State). Some (record {
      session = c.self.inside.session_name;
      number =
          c.self.inside.run_to + 1;
      count = c.match-self.last - c.self.inside.run_to;
    }) ≡ gap_of
    s.session s.window s.sent packets) c.self.view_is
    (gap_of-some (arbiter_inside c.self.inside) packets _ _ _ c.self.invariant.sound inside
    c.self.invariant.next (limit_is g at) (last_is g at) c.if-last-self.false)

pub overflow_cast-result : goal.overflow_cast-result
overflow_cast-result g c =
    let at = (goal.at.overflow_cast-result g c).Joined-self in
    let last = last_is g at in
    let limit = limit_is g at in
    let near = c.reach.ensures.near in
    let within = asked_within c.min-limit.result c.self.inside.next_held in
    elim c.self.invariant.sound.sent_or_end [
      | inl sent ↦ omega arith
      | inr ended ↦ let known = c.self.invariant.sound.known_at_end c.self.inside.held.base ended.1
          in absurd (omega arith)
    ]
