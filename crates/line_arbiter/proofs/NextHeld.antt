-- The lowest number past the front at which an item is held.
use Rattle.std.proofs.Common.{◌≡◌, ℕ, ◌+◌, ◌-◌, ◌<◌, ◌≤◌, Bool, true, false, length, Option, Some, None, refl, sym, ap, subst, ◌∙◌, arith, inl, inr}
use Rattle.std.specs.Prelude.{◌⊎◌, IsSome, MatchBool, nat_eq, nat_le, nat_lt, ◌&&◌, if◌then◌else◌}
use Rattle.std.proofs.lemmas.Bool.{cases_lt, false≢true, le-leb, lt-ltb, ltb-true, ne_eqb}
use Rattle.feed_types.specs.declared.item.Item.{Item}
use Rattle.feed_types.specs.declared.item.Item.TheVariants as items
use Rattle.mold_packet.specs.Content.{Content, last_number}
use Rattle.line_arbiter.specs.Packets.{item_at}
use Rattle.line_arbiter.specs.Holding.{Held, held_at}
use Rattle.line_arbiter.specs.Filling.{IsHeldFrom, IsNextHeld, put_all}
use Rattle.line_arbiter.specs.States.{State, held_of}
use Rattle.line_arbiter.specs.Outcomes.{IsBefore}
use Rattle.line_arbiter.specs.Steps.{IsSound}
use Rattle.line_arbiter.specs.laws.Bringing.{number_in}
use Rattle.line_arbiter.proofs.Soundness.{held_some, none_past_end, put_is, put_kept, still, still_none}
use Rattle.line_arbiter.proofs.Windows.{in_window}

none_held : (held : Held) (m : ℕ) → held_at held m ≡ None → IsSome (held_at held m) → ⊥
none_held held m none some = false≢true (subst (λ (o : Option Item). IsSome o) none some)

-- what is held past the front is at the lowest number or above it
pub from_next : (held : Held) (front : ℕ) (next : Option ℕ) → IsNextHeld held front next → (m : ℕ)
    → front < m → IsSome (held_at held m)
    → (n : ℕ) × (next ≡ Some n) × (n ≤ m)
from_next held front None is m past some = absurd (none_held held m (is m past) some)
from_next held front (Some n) is m past some = (
  n,
  refl,
  elim (cases_lt m n) [
    | inl below ↦ absurd (none_held held m (is.none m past below) some)
    | inr above ↦ above
  ],
)

-- an item is held there
next_here : (held : Held) (front : ℕ) (next : Option ℕ) (n : ℕ) → IsNextHeld held front next
    → next ≡ Some n → IsSome (held_at held n)
next_here held front None n is e = absurd cc
next_here held front (Some x) n is e = let same : x ≡ n = cc
    in subst (λ (k : ℕ). IsSome (held_at held k)) same is.here

-- whether an item is held below a number, by the lowest number at which one is
pub none_below : (held : Held) (number : ℕ) → IsNextHeld held held.base None → (m : ℕ)
    → IsSome (held_at held m) → number ≤ m
none_below held number is m some = absurd (none_held held m (is m (in_window held m some).0) some)

pub below_or_not : (held : Held) (first number : ℕ) → IsNextHeld held held.base (Some first)
    → MatchBool (nat_lt first number) ((m : ℕ) × (m < number) × IsSome (held_at held m)) ((m : ℕ)
    → IsSome (held_at held m) → number ≤ m)
below_or_not held first number is = by_test (nat_lt first number) refl
  where
    by_test : (t : Bool) → nat_lt first number ≡ t
        → MatchBool t ((m : ℕ) × (m < number) × IsSome (held_at held m)) ((m : ℕ)
        → IsSome (held_at held m) → number ≤ m)
    by_test true e = (first, ltb-true first number e, is.here)
    by_test false e = λ m some. elim (cases_lt m number) [
      | inr le ↦ le
      | inl lt ↦ elim (cases_lt first number) [
        | inl below ↦ absurd (false≢true (sym e ∙ lt-ltb first number below))
        | inr above ↦ absurd (none_held held m (is.none m (in_window held m some).0 (omega arith))
            some)
      ]
    ]

-- a packet's message that was put in
put_here : (sent : ℕ) (p : Content) (found : Option Item) (m : ℕ) → sent < m → p.number ≤ m
    → m < p.number + length p.messages → IsSome (put_all sent p found m)
put_here sent p None m past low high =
    subst (λ (b : Bool). IsSome (if b then Some (item_at p m) else None)) (sym yes) refl
  where
    yes : (nat_lt sent m && (nat_le p.number m && nat_lt m (p.number + length p.messages))) ≡ true
    yes = rw (
      lt-ltb sent m past,
      le-leb p.number m low,
      lt-ltb m (p.number + length p.messages) high,
    ) refl
put_here sent p (Some x) m past low high = refl

-- A packet was put in whose last message wasn't sent, and the front has moved over it.
pub moved_from : (s : State) (new : Held) (p : Content) (front : ℕ) (next : Option ℕ)
    → IsSound s → IsNextHeld (held_of s) s.front next → 1 ≤ length p.messages
    → s.sent < last_number p
    → IsBefore s.end (last_number p)
    → ((m : ℕ) → held_at new m ≡ put_all s.sent p (held_at (held_of s) m) m) → new.base ≡ s.sent
    → s.front ≤ front → ((m : ℕ) → s.front < m → m ≤ front → IsSome (held_at new m))
    → held_at new (front + 1) ≡ None
    → IsHeldFrom new front p.number next
moved_from s new p front next sound is some unsent before after base from run stop =
    let within : s.sent ≤ s.front = elim sound.sent_or_end [
      | inl le ↦ le
      | inr ended ↦ let b = before s.sent ended.1 in absurd (omega arith)
    ] in
    let held_in : (m : ℕ) → s.sent < m → p.number ≤ m → m ≤ last_number p
    → IsSome (held_at new m) = λ m past low high.
    subst (λ (o : Option Item). IsSome o) (sym (after m)) (put_here s.sent p (held_at (held_of s) m)
    m past low (omega arith)) in
    -- the front is past the packet, or where it was
    let over : (last_number p ≤ front) ⊎ (front < p.number) = elim (cases_lt front p.number) [
      | inl behind ↦ inr behind
      | inr low ↦ elim (cases_lt front (last_number p)) [
        | inl short ↦ absurd (none_held new (front + 1) stop (held_in (front + 1) (omega arith)
            (omega arith) (omega arith)))
        | inr over ↦ inl over
      ]
    ] in
    record {
      base = omega arith;
      here = λ behind. held_in p.number (omega arith) (omega arith) (omega arith);
      there = λ n e. subst (λ (o : Option Item). IsSome o) (sym (after n))
          (put_kept s.sent p (held_at (held_of s) n) n (next_here (held_of s) s.front next n is e));
      others = λ m past some.
          let item = held_some (held_at new m) some in
          elim (put_is s.sent p (held_at (held_of s) m) m item.0 (sym (after m) ∙ item.1)) [
            | inl was ↦ inr (from_next (held_of s) s.front next is m (omega arith)
                (subst (λ (o : Option Item). IsSome o) (sym was) refl))
            | inr put ↦
                let k = number_in p m put.in_packet in
                elim over [
                  | inl gone ↦ absurd (omega arith)
                  | inr behind ↦ inl (behind, k.0)
                ]
          ];
    }

-- the item that is sent is not past the front
pub next_advanced : (s : State) (new : Held) (next : Option ℕ) → IsSound s
    → IsNextHeld (held_of s) s.front next
    → ((m : ℕ) → held_at new m ≡ (if nat_eq m (s.sent + 1) then None else held_at (held_of s) m))
    → IsNextHeld new s.front next
next_advanced s new None sound is held = λ m past. held m
    ∙ still_none (nat_eq m (s.sent + 1)) (held_at (held_of s) m) (is m past)
next_advanced s new (Some n) sound is held =
    let past = is.past in
    let apart : n ≡ s.sent + 1 → ⊥ = λ same. elim sound.sent_or_end [
      | inl within ↦
          let next : n ≡ s.front + 1 = omega arith in
          none_held (held_of s) n (ap (held_at (held_of s)) next ∙ sound.stop) is.here
      | inr ended ↦ none_held (held_of s) n (none_past_end s sound ended.1 n) is.here
    ] in
    record {
      past = is.past;
      here = subst (λ (o : Option Item). IsSome o)
          (sym (held n ∙ still (nat_eq n (s.sent + 1)) (held_at (held_of s) n)
          (ne_eqb n (s.sent + 1) apart))) is.here;
      none = λ m low below. held m
          ∙ still_none (nat_eq m (s.sent + 1)) (held_at (held_of s) m) (is.none m low below);
    }

given : (b : Bool) (o : Option Item) → IsSome o → IsSome (if b then Some items.Skipped else o)
given true o some = refl
given false o some = some

not_given : (b : Bool) (o : Option Item) → b ≡ false → (if b then Some items.Skipped else o) ≡ o
not_given true o e = absurd (false≢true (sym e))
not_given false o e = refl

-- messages past the front were given up, and the front has moved over what is held from there on
pub skipped_from : (s : State) (new : Held) (n front : ℕ) (next : Option ℕ)
    → IsNextHeld (held_of s) s.front next → s.front + 1 < n
    → new.base + 2 ≡ n
    → ((m : ℕ) → held_at new m ≡ (if nat_eq m (n - 1) then Some items.Skipped else
    held_at (held_of s) m))
    → n - 1 ≤ front → IsHeldFrom new front (n - 1) next
skipped_from s new n front next is past base held from = record {
  base = omega arith;
  here = λ behind. absurd (omega arith);
  there = λ k e. subst (λ (o : Option Item). IsSome o) (sym (held k))
      (given (nat_eq k (n - 1)) (held_at (held_of s) k)
      (next_here (held_of s) s.front next k is e));
  others = λ m low some.
      let kept : held_at new m ≡ held_at (held_of s) m =
      held m ∙ not_given (nat_eq m (n - 1)) (held_at (held_of s) m)
      (ne_eqb m (n - 1) (λ e. omega arith)) in
      inr (from_next (held_of s) s.front next is m (omega arith)
      (subst (λ (o : Option Item). IsSome o) kept some));
}
