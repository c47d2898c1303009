-- How far heartbeats go: no further than what is put out of the session, also once more came.
use Rattle.std.proofs.Common.{◌≡◌, ◌⊎◌, ℕ, ◌≤◌, Bool, true, false, List, [], ◌∷◌, ◌++◌, ap, ◌∙◌, inl, inr, refl, arith}
use Rattle.std.specs.Prelude.{◌||◌, nat_lt, if◌then◌else◌}
use Rattle.std.specs.List.{AllByRecursion}
use Rattle.line_arbiter.specs.Packets.{Input, Arrived, Skip}
use Rattle.line_arbiter.specs.Streams.{front_of}
use Rattle.line_arbiter.specs.laws.StreamGrowth.{front_grows}
use Rattle.mold_packet.specs.Content.{Content}
use Rattle.venue_normaliser.specs.Brought.{before_skip_past, has_skip_past}
use Rattle.venue_normaliser.specs.Outputs.{Opening}
use Rattle.normalising.specs.Carried.{BeatsAt, BeatsWithin, last_put}

-- ---- the last message that is put out

neither : (b c : Bool) → (b || c) ≡ false → (b ≡ false) × (c ≡ false)
neither true c e = absurd cc
neither false c e = (refl, e)

before_all : (from : ℕ) (packets : List Input) → has_skip_past from packets ≡ false
    → before_skip_past from packets ≡ packets
before_all from [] none = refl
before_all from (Arrived a ∷ packets) none =
    ap (λ (xs : List Input). Arrived a ∷ xs) (before_all from packets none)
before_all from (Skip k ∷ packets) none =
    let both = neither (nat_lt from k) (has_skip_past from packets) none in
    ap (λ (b : Bool). if b then [] else Skip k ∷ before_skip_past from packets) both.0
    ∙ ap (λ (xs : List Input). Skip k ∷ xs) (before_all from packets both.1)

-- it is the front, where no gap was given up
pub last_front : (opening : Opening) (packets : List Input)
    → has_skip_past opening.number packets ≡ false → last_put opening packets ≡ front_of packets
last_front opening packets none = ap front_of (before_all opening.number packets none)

-- what came before the first gap that was given up is the same with one input more, or has that too
before_more : (from : ℕ) (packets : List Input) (x : Input)
    → (before_skip_past from (packets ++ x ∷ []) ≡ before_skip_past from packets)
    ⊎ (before_skip_past from (packets ++ x ∷ []) ≡ before_skip_past from packets ++ x ∷ [])
before_more from [] (Arrived a) = inr refl
before_more from [] (Skip k) = by_test (nat_lt from k)
  where
    by_test : (b : Bool) → ((if b then [] else Skip k ∷ []) ≡ [])
        ⊎ ((if b then [] else Skip k ∷ []) ≡ Skip k ∷ [])
    by_test true = inl refl
    by_test false = inr refl
before_more from (y ∷ packets) x = by_first y (before_more from packets x)
  where
    longer : (z : Input)
        → (before_skip_past from (packets ++ x ∷ []) ≡ before_skip_past from packets)
        ⊎ (before_skip_past from (packets ++ x ∷ []) ≡ before_skip_past from packets ++ x ∷ [])
        → (z ∷ before_skip_past from (packets ++ x ∷ []) ≡ z ∷ before_skip_past from packets)
        ⊎ (z ∷ before_skip_past from (packets ++ x ∷ [])
        ≡ z ∷ (before_skip_past from packets ++ x ∷ []))
    longer z (inl same) = inl (ap (λ (xs : List Input). z ∷ xs) same)
    longer z (inr more) = inr (ap (λ (xs : List Input). z ∷ xs) more)

    by_first : (z : Input)
        → (before_skip_past from (packets ++ x ∷ []) ≡ before_skip_past from packets)
        ⊎ (before_skip_past from (packets ++ x ∷ []) ≡ before_skip_past from packets ++ x ∷ [])
        → (before_skip_past from (z ∷ (packets ++ x ∷ [])) ≡ before_skip_past from (z ∷ packets))
        ⊎ (before_skip_past from (z ∷ (packets ++ x ∷ []))
        ≡ before_skip_past from (z ∷ packets) ++ x ∷ [])
    by_first (Arrived a) rest = longer (Arrived a) rest
    by_first (Skip k) rest = by_test (nat_lt from k)
      where
        by_test : (b : Bool)
            → ((if b then [] else Skip k ∷ before_skip_past from (packets ++ x ∷ []))
            ≡ (if b then [] else Skip k ∷ before_skip_past from packets))
            ⊎ ((if b then [] else Skip k ∷ before_skip_past from (packets ++ x ∷ []))
            ≡ (if b then [] else Skip k ∷ before_skip_past from packets) ++ x ∷ [])
        by_test true = inl refl
        by_test false = longer (Skip k) rest

-- it grows with what is given
last_grows : (opening : Opening) (packets : List Input) (x : Input)
    → last_put opening packets ≤ last_put opening (packets ++ x ∷ [])
last_grows opening packets x = elim (before_more opening.number packets x) [
  | inl same ↦ let e = ap front_of same in omega (arith, e)
  | inr more ↦
      let e = ap front_of more in
      let grows = front_grows (before_skip_past opening.number packets) x in
      omega (arith, e, grows)
]

-- ---- heartbeats

-- those that were within it before are within it then
pub still_within : (opening : Opening) (packets : List Input) (x : Input) (ps : List Content)
    → AllByRecursion (BeatsWithin (last_put opening packets)) ps
    → AllByRecursion (BeatsWithin (last_put opening (packets ++ x ∷ []))) ps
still_within opening packets x [] each = tt
still_within opening packets x (p ∷ ps) each = (
  λ beat. let before = each.0 beat in let grows = last_grows opening packets x in
      omega (arith, before, grows),
  still_within opening packets x ps each.1,
)

-- those just after the last message are within it
pub now_within : (last : ℕ) (ps : List Content) → AllByRecursion (BeatsAt last) ps
    → AllByRecursion (BeatsWithin last) ps
now_within last [] each = tt
now_within last (p ∷ ps) each =
    ((λ beat. let at = each.0 beat in omega (arith, at)), now_within last ps each.1)
