-- A skip has exactly one answer.
use Rattle.std.proofs.Common.{◌≡◌, ℕ, ◌+◌, ◌<◌, List, length, None, Result, Ok, Err, refl, arith, inl, inr}
use Rattle.std.specs.Prelude.{◌⊎◌, IsSome, is_some}
use Rattle.std.proofs.lemmas.Bool.{cases_Bool, cases_eq, cases_lt}
use Rattle.line_arbiter.specs.declared.faults.SkipFault.{SkipFault}
use Rattle.line_arbiter.specs.declared.faults.SkipFault.TheVariants.{ItemsReady, PastEnd, NothingMissing, HeldBelow}
use Rattle.line_arbiter.specs.Packets.{Input, carried, end_of}
use Rattle.line_arbiter.specs.Streams.{front_of, opens_of, part_of}
use Rattle.line_arbiter.specs.Skips.{EndsBelow, EndsFrom, HasBelow, IsSkip, MaySkip}
use Rattle.line_arbiter.specs.laws.Deciding.{none_or_one, one_below}
use Rattle.line_arbiter.specs.laws.Fronts.{none_is, not_none}
use Rattle.line_arbiter.specs.laws.OneOutcome.{none_or_some, same_some}

module _ (packets : List Input) (sent n : ℕ) where
  below_or_from : EndsBelow packets n → EndsFrom packets n → ⊥
  below_or_from below from = let later = from below.0 below.1 in let early = below.2 in omega arith

  has_or_missing : HasBelow packets n → MaySkip packets n → ⊥
  has_or_missing has may =
      not_none (carried packets has.0) has.3 (may.missing has.0 has.1 has.2)

  pub one_skip : (a b : Result (Unit {0}) SkipFault) → IsSkip packets sent n a
      → IsSkip packets sent n b → a ≡ b
  one_skip (Ok done) (Ok again) x y = refl
  one_skip (Ok done) (Err ItemsReady) x y = absurd (y x.0)
  one_skip (Ok done) (Err PastEnd) x y = absurd (below_or_from y.1 x.1.not_ended)
  one_skip (Ok done) (Err NothingMissing) x y =
      let past = x.1.past in let low = y.2 in absurd (omega arith)
  one_skip (Ok done) (Err HeldBelow) x y = absurd (has_or_missing y.3 x.1)
  one_skip (Err ItemsReady) (Ok again) x y = absurd (x y.0)
  one_skip (Err ItemsReady) (Err ItemsReady) x y = refl
  one_skip (Err ItemsReady) (Err PastEnd) x y = absurd (x y.0)
  one_skip (Err ItemsReady) (Err NothingMissing) x y = absurd (x y.0)
  one_skip (Err ItemsReady) (Err HeldBelow) x y = absurd (x y.0)
  one_skip (Err PastEnd) (Ok again) x y = absurd (below_or_from x.1 y.1.not_ended)
  one_skip (Err PastEnd) (Err ItemsReady) x y = absurd (y x.0)
  one_skip (Err PastEnd) (Err PastEnd) x y = refl
  one_skip (Err PastEnd) (Err NothingMissing) x y = absurd (below_or_from x.1 y.1)
  one_skip (Err PastEnd) (Err HeldBelow) x y = absurd (below_or_from x.1 y.1)
  one_skip (Err NothingMissing) (Ok again) x y =
      let past = y.1.past in let low = x.2 in absurd (omega arith)
  one_skip (Err NothingMissing) (Err ItemsReady) x y = absurd (y x.0)
  one_skip (Err NothingMissing) (Err PastEnd) x y = absurd (below_or_from y.1 x.1)
  one_skip (Err NothingMissing) (Err NothingMissing) x y = refl
  one_skip (Err NothingMissing) (Err HeldBelow) x y =
      let past = y.2 in let low = x.2 in absurd (omega arith)
  one_skip (Err HeldBelow) (Ok again) x y = absurd (has_or_missing x.3 y.1)
  one_skip (Err HeldBelow) (Err ItemsReady) x y = absurd (y x.0)
  one_skip (Err HeldBelow) (Err PastEnd) x y = absurd (below_or_from y.1 x.1)
  one_skip (Err HeldBelow) (Err NothingMissing) x y =
      let past = x.2 in let low = y.2 in absurd (omega arith)
  one_skip (Err HeldBelow) (Err HeldBelow) x y = refl

  ends_where : EndsBelow packets n ⊎ EndsFrom packets n
  ends_where = elim (none_or_one (end_of packets)) [
    | inl none ↦ inr (λ e is. absurd (none_or_some (end_of packets) e none is))
    | inr one ↦ elim (cases_lt one.0 n) [
      | inl early ↦ inl (one.0, one.1, early)
      | inr late ↦ inr (λ e is.
          let same = same_some one.0 e (end_of packets) one.1 is in omega arith)
    ]
  ]

  -- the number is past the front and has come
  abbrev Came : ℕ → Type 0
  Came m = (front_of packets < m) × IsSome (carried packets m)

  came_or_not : (m : ℕ) → Came m ⊎ (Came m → ⊥)
  came_or_not m = elim (cases_lt (front_of packets) m) [
    | inr low ↦ inr (λ h. let past = h.0 in omega arith)
    | inl past ↦ elim (cases_Bool (is_some (carried packets m))) [
      | inl some ↦ inl (past, some)
      | inr none ↦ inr (λ h. not_none (carried packets m) h.1 (none_is (carried packets m) none))
    ]
  ]

  pub every_skip : (answer : Result (Unit {0}) SkipFault) × IsSkip packets sent n answer
  every_skip = elim (cases_eq (sent + 1) (opens_of packets + length (part_of packets))) [
    | inr ready ↦ (Err ItemsReady, ready)
    | inl all ↦ elim ends_where [
      | inl below ↦ (Err PastEnd, (all, below))
      | inr from ↦ elim (cases_lt (front_of packets + 1) n) [
        | inr low ↦ (Err NothingMissing, (all, from, low))
        | inl past ↦ elim (one_below Came came_or_not n) [
          | inl has ↦ (Err HeldBelow, (all, from, past, (has.0, has.2.0, has.1, has.2.1)))
          | inr none ↦ (
            Ok tt,
            (
              all,
              record {
                past = past;
                not_ended = from;
                missing = λ m low lt. missing_is m (none m lt) low;
              },
            ),
          )
        ]
      ]
    ]
  ]
    where
      missing_is : (m : ℕ) → (Came m → ⊥) → front_of packets < m → carried packets m ≡ None
      missing_is m not_come low = elim (cases_Bool (is_some (carried packets m))) [
        | inl some ↦ absurd (not_come (low, some))
        | inr none ↦ none_is (carried packets m) none
      ]
