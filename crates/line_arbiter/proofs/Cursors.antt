-- The place of the last item sent, and what is held past it.
use Rattle.std.proofs.Common.{◌≡◌, ℕ, ◌+◌, ◌<◌, ◌≤◌, Bool, true, false, List, [], ◌∷◌, length, Option, Some, None, refl, sym, ap, ◌∙◌, arith, inl, inr, ◌-◌}
use Rattle.std.specs.Prelude.{nat_le, ◌==◌, ◌⊎◌, if◌then◌else◌}
use Rattle.std.proofs.lemmas.Bool.{cases_lt, eqb-true, lt-leb}
use Rattle.line_arbiter.specs.Packets.{Input, carried, end_of}
use Rattle.line_arbiter.specs.Streams.{end_at, opens_of, stream_to}
use Rattle.line_arbiter.specs.Holding.{held_at}
use Rattle.line_arbiter.specs.States.{State, held_of}
use Rattle.line_arbiter.specs.laws.Fronts.{opens_most}
use Rattle.line_arbiter.specs.laws.Lengths.{end_most, length-stream}
use Rattle.line_arbiter.proofs.Standing.{Stands}
use Rattle.feed_types.specs.declared.item.Item.TheVariants as items

pub stream_len : (packets Q : List Input) (n : ℕ) → opens_of Q ≡ opens_of packets
    → end_of Q ≡ end_of packets
    → length (stream_to Q n) ≡ length (stream_to packets n)
stream_len packets Q n opens e =
    length-stream Q n ∙ ap (λ (o : Option ℕ). n + 1 - opens_of Q + length (end_at o (n + 1))) e
    ∙ ap (λ (k : ℕ). n + 1 - k + length (end_at (end_of packets) (n + 1))) opens
    ∙ sym (length-stream packets n)

some_if : {X : Type 0} (b : Bool) (x : X) → 0 < length (if b then x ∷ [] else []) → b ≡ true
some_if true x h = refl
some_if false x h = absurd (omega arith)

-- where End takes a place, it is at its number
pub end_len : (o : Option ℕ) (m : ℕ) → 0 < length (end_at o m) → o ≡ Some m
end_len None m h = absurd (omega arith)
end_len (Some e) m h =
    ap (λ (k : ℕ). Some k)
    (eqb-true e m (some_if (e == m) (record { number = m; item = items.End }) h))

-- the cursor is not past the front, or End was sent
pub cursor : (s : State) (packets : List Input) → Stands s packets
    → (s.sent ≤ s.front) ⊎ ((s.sent ≡ s.front + 1) × (end_of packets ≡ Some (s.front + 1)))
cursor s packets fits = elim (cases_lt s.front s.sent) [
  | inl past ↦ inr (let k = fits.sent in let l = length-stream packets s.front in let o =
      opens_most packets s.front fits.front in (
        omega (arith, end_most (end_of packets) (s.front + 1)),
        end_len (end_of packets)
            (s.front + 1) (omega arith),
      ))
  | inr le ↦ inl le
]

-- while no end is announced, the cursor is not past the front
pub open_cursor : (s : State) (packets : List Input) → Stands s packets → s.end ≡ None
    → s.sent ≤ s.front
open_cursor s packets fits is = elim (cursor s packets fits) [
  | inl within ↦ within
  | inr ended ↦ let gone : Some (s.front + 1) ≡ None = sym ended.1 ∙ sym fits.end ∙ is in absurd cc
]

-- what is held past the last item sent is what was taken
pub held_is : (s : State) (packets : List Input) → Stands s packets → (m : ℕ) → s.sent < m
    → held_at (held_of s) m ≡ carried packets m
held_is s packets fits m h =
    let no : nat_le m s.sent ≡ false =
    lt-leb m s.sent h in fits.held m
    ∙ ap (λ (b : Bool). if b then None else carried packets m) no
