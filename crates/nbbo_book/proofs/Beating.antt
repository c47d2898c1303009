-- The ranking of two sides: the order is one way, goes on, and separates any two of different ages.
use Rattle.std.proofs.Common.{ℕ, ◌<◌, ◌≡◌, Bool, true, false, refl, ap, subst, sym, ◌∙◌, arith, nat_eq, nat_lt, ◌⊎◌, inl, inr}
use Rattle.std.specs.Prelude.{◌&&◌, ◌||◌}
use Rattle.feed_types.specs.declared.line.Side.{Side}
use Rattle.feed_types.specs.declared.line.Side.TheVariants.{Bid, Offer}
use Rattle.feed_types.specs.declared.national.Best.{Best}
use Rattle.nbbo_book.specs.Nationals.{beats, is_better}

-- the first difference is in the price, the size or the age; P says that the price is better
abbrev Precedes : Type 0 → (ℕ → ℕ) → Best → Best → Type 0
Precedes P f x y = P
    ⊎ ((x.price ≡ y.price) × ((y.size < x.size) ⊎ ((x.size ≡ y.size) × (f x.venue < f y.venue))))

bid_precedes : (f : ℕ → ℕ) (x y : Best) → beats Bid f x y ≡ true
    → Precedes (y.price < x.price) f x y
bid_precedes f x y p = grind (arith, p)

offer_precedes : (f : ℕ → ℕ) (x y : Best) → beats Offer f x y ≡ true
    → Precedes (x.price < y.price) f x y
offer_precedes f x y p = grind (arith, p)

bid_beats : (f : ℕ → ℕ) (x y : Best) → Precedes (y.price < x.price) f x y → beats Bid f x y ≡ true
bid_beats f x y p = grind (arith, p)

offer_beats : (f : ℕ → ℕ) (x y : Best) → Precedes (x.price < y.price) f x y
    → beats Offer f x y ≡ true
offer_beats f x y p = grind (arith, p)

-- prices that are ordered one way, whichever it is
chain : (IsBefore : ℕ → ℕ → Type 0)
    → ((a b c : ℕ) → IsBefore a b → IsBefore b c → IsBefore a c)
    → (f : ℕ → ℕ) (x y z : Best)
    → Precedes (IsBefore x.price y.price) f x y → Precedes (IsBefore y.price z.price) f y z
    → Precedes (IsBefore x.price z.price) f x z
chain IsBefore then_before f x y z p q = elim p [
  | inl h ↦ elim q [
    | inl k ↦ inl (then_before x.price y.price z.price h k)
    | inr k ↦ inl (subst (λ (n : ℕ). IsBefore x.price n) k.0 h)
  ]
  | inr h ↦ elim q [
    | inl k ↦ inl (subst (λ (n : ℕ). IsBefore n z.price) (sym h.0) k)
    | inr k ↦ inr (
      h.0 ∙ k.0,
      elim h.1 [
        | inl m ↦ elim k.1 [ inl n ↦ inl (omega (arith, m, n)) | inr n ↦ inl (omega (arith, m, n)) ]
        | inr m ↦ elim k.1 [
          | inl n ↦ inl (omega (arith, m, n))
          | inr n ↦ inr
              (omega (arith, m, n), omega (arith, m, n))
        ]
      ],
    )
  ]
]

pub beats_chain : (b : Side) (f : ℕ → ℕ) (x y z : Best)
    → beats b f x y ≡ true → beats b f y z ≡ true
    → beats b f x z ≡ true
beats_chain Bid f x y z p q =
    bid_beats f x z
    (chain (λ a b. b < a) (λ a b c h k. omega (arith, h, k)) f x y z (bid_precedes f x y p)
    (bid_precedes f y z q))
beats_chain Offer f x y z p q =
    offer_beats f x z
    (chain (λ a b. a < b) (λ a b c h k. omega (arith, h, k)) f x y z (offer_precedes f x y p)
    (offer_precedes f y z q))

pub beats_one_way : (b : Side) (f : ℕ → ℕ) (x y : Best) → beats b f x y ≡ true
    → beats b f y x ≡ true → ⊥
beats_one_way Bid f x y p q = grind (arith, p, q)
beats_one_way Offer f x y p q = grind (arith, p, q)

-- two sides of different ages: one of them ranks first
pub beats_either : (b : Side) (f : ℕ → ℕ) (x y : Best) → (f x.venue ≡ f y.venue → ⊥)
    → beats b f x y ≡ false
    → beats b f y x ≡ true
beats_either Bid f x y h p = grind (arith, h, p)
beats_either Offer f x y h p = grind (arith, h, p)

-- ages count at the two venues alone
pub beats_same : (b : Side) (f g : ℕ → ℕ) (x y : Best) → f x.venue ≡ g x.venue
    → f y.venue ≡ g y.venue
    → beats b f x y ≡ beats b g x y
beats_same b f g x y p q =
    ap (λ t. is_better b x y || ((nat_eq x.price y.price && nat_eq x.size y.size)
    && nat_lt t (f y.venue))) p
    ∙ ap (λ t. is_better b x y || ((nat_eq x.price y.price && nat_eq x.size y.size)
    && nat_lt (g x.venue) t)) q

no_older : (a b : Bool) → (a || (b && false)) ≡ a
no_older true b = refl
no_older false true = refl
no_older false false = refl

-- what no other is newer than ranks before it by its price or its size alone
pub newest_beats : (b : Side) (f : ℕ → ℕ) (x y : Best) → nat_lt (f x.venue) (f y.venue) ≡ false
    → beats b f x y ≡ is_better b x y
newest_beats b f x y h =
    ap (λ t. is_better b x y || ((nat_eq x.price y.price && nat_eq x.size y.size) && t)) h
    ∙ no_older (is_better b x y) (nat_eq x.price y.price && nat_eq x.size y.size)
