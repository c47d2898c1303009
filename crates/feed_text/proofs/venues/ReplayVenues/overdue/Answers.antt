use Rattle.std.proofs.Common.{rules, ◌≡◌, ◌≤◌, ℕ, length, ap, subst, ◌∙◌, arith, inl, inr}
use Rattle.std.proofs.lemmas.Bool.{cases_lt}
use Rattle.capture_records.specs.Capture.{skip_record}
use Rattle.feed_text.specs.Rules.{HasStood, IsOverdueAt}
use Rattle.feed_text.proofs.PuttingIn.{kept_past}
use Rattle.feed_text.proofs.venues.ReplayVenues.overdue.Goals as goal

pub loop-place-init : goal.loop-place-init
loop-place-init c = λ window at f kept lower number less x. absurd (omega arith)

pub loop-place-preserved : goal.loop-place-preserved
loop-place-preserved c = λ window at f kept lower number less x.
    elim (cases_lt lower c.loop-place.place) [
      | inl below ↦ c.loop-place.invariant window at f kept lower number below x
      | inr above ↦
          let same : lower ≡ c.loop-place.place = omega (arith, less, above) in
          c.in_default.ensures window at f kept number
          (subst (λ (p : ℕ). IsOverdueAt window c.args.clock.now.span c.args.clock.now.time at p
          number) same x)
    ]

pub returns-in-Some : goal.returns-in-Some
returns-in-Some c = λ window at f kept. record {
  place = c.loop-place.place;
  number = c.in-Some.number;
  overdue = c.in-Some.ensures window at f kept;
  lowest = λ lower other less x. c.loop-place.invariant window at f kept lower other less x;
  skip = ap (λ (v : ℕ). skip_record v c.in-Some.number) c.at.ensures;
}

pub returns : goal.returns
returns c = λ window at f kept place number x. elim (cases_lt place 16) [
  | inl below ↦
      let test = c.loop-place-test.false in
      c.loop-place.invariant window at f kept place number (omega (arith, test, below)) x
  | inr above ↦
      let all : length c.args.kept.now.gaps ≤ 16 = search rules in
      subst (HasStood c.args.clock.now.span c.args.clock.now.time x.overdue.gap.number)
      (kept place ∙ kept_past c.args.kept.now.gaps place (omega (arith, all, above)))
      x.overdue.stood
]
