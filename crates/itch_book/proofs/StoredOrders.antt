-- The orders that are stored, by their places and beyond them, as they are looked up.
use Rattle.std.proofs.Common.{◌≡◌, ℕ, zero, suc, ◌+◌, ◌-◌, ◌*◌, ◌/◌, ◌<◌, ◌≤◌, true, false, cond, List, [], ◌∷◌, ◌++◌, get_or, refl, sym, ap, ◌∙◌, subst, arith, inl, inr}
use Rattle.std.specs.Prelude.{◌==◌, nat_eq, Option, Some, None}
use Rattle.std.proofs.lemmas.Bool.{cases_eq, eq-eqb, ne_eqb}
use Rattle.std.proofs.lemmas.Option.{none-some}
use Rattle.itch_book.specs.declared.order.Order.{Order}
use Rattle.itch_book.specs.declared.slot.Slot.{Slot}
use Rattle.itch_book.specs.Orders.{live_order}
use Rattle.itch_book.specs.Slots.{AreHome, AreStored, IsHeldAt, bucket_of, slot_orders, stored_orders}

-- ---- the places of a bucket

among_four : (P : ℕ → Type 0) (first k : ℕ) → P first → P (first + 1) → P (first + 2)
    → P (first + 3) → first ≤ k → k < first + 4 → P k
among_four P first k a b c d low high = elim (cases_eq k first) [
  | inl e ↦ subst P (sym e) a
  | inr n0 ↦ elim (cases_eq k (first + 1)) [
    | inl e ↦ subst P (sym e) b
    | inr n1 ↦ elim (cases_eq k (first + 2)) [
      | inl e ↦ subst P (sym e) c
      | inr n2 ↦ subst P (omega (arith, low, high, n0, n1, n2)) d
    ]
  ]
]

pub held_nowhere : (mask : ℕ) (slots : List Slot) (reference first : ℕ) → AreHome mask slots
    → first ≡ bucket_of mask reference * 4
    → (IsHeldAt slots first reference → ⊥) → (IsHeldAt slots (first + 1) reference → ⊥)
    → (IsHeldAt slots (first + 2) reference → ⊥) → (IsHeldAt slots (first + 3) reference → ⊥)
    → (k : ℕ) → IsHeldAt slots k reference → ⊥
held_nowhere mask slots reference first home is a b c d k held =
    let at : k / 4 ≡ bucket_of mask reference = home k reference held in
    (among_four (λ n. IsHeldAt slots n reference → ⊥) first k a b c d (omega (arith, at, is))
    (omega (arith, at, is))) held

-- ---- looking an order up

unfoldable pub either : Option Order → Option Order → Option Order
either (Some order) other = Some order
either None other = other

pub lookup-append : (xs ys : List (ℕ × Order)) (reference : ℕ) → live_order (xs ++ ys) reference
    ≡ either (live_order xs reference) (live_order ys reference)
unfolding either
lookup-append [] ys reference = refl
lookup-append (x ∷ xs) ys reference =
    elim (nat_eq reference x.0) as (λ b. cond b (Some x.1) (live_order (xs ++ ys) reference)
    ≡ either (cond b (Some x.1) (live_order xs reference)) (live_order ys reference)) [
      | true ↦ refl
      | false ↦ lookup-append xs ys reference
    ]

lookup_first : (xs ys : List (ℕ × Order)) (reference : ℕ) (order : Order)
    → live_order xs reference ≡ Some order → live_order (xs ++ ys) reference ≡ Some order
unfolding either
lookup_first xs ys reference order e =
    lookup-append xs ys reference ∙ ap (λ o. either o (live_order ys reference)) e

lookup_second : (xs ys : List (ℕ × Order)) (reference : ℕ) → live_order xs reference ≡ None
    → live_order (xs ++ ys) reference ≡ live_order ys reference
unfolding either
lookup_second xs ys reference e =
    lookup-append xs ys reference ∙ ap (λ o. either o (live_order ys reference)) e

pub lookup_alike : (xs zs ys : List (ℕ × Order)) (reference : ℕ)
    → live_order xs reference ≡ live_order zs reference
    → live_order (xs ++ ys) reference ≡ live_order (zs ++ ys) reference
lookup_alike xs zs ys reference e =
    lookup-append xs ys reference ∙ ap (λ o. either o (live_order ys reference)) e
    ∙ sym (lookup-append zs ys reference)

pub lookup_slot : (s : Slot) (slots : List Slot) (reference : ℕ)
    → live_order (slot_orders (s ∷ slots)) reference
    ≡ cond (s.order.shares == 0) (live_order (slot_orders slots) reference)
    (cond (nat_eq reference s.reference) (Some s.order) (live_order (slot_orders slots) reference))
lookup_slot s slots reference =
    elim (s.order.shares == 0) as (λ b. live_order (cond b (slot_orders slots)
    ((s.reference, s.order) ∷ slot_orders slots)) reference
    ≡ cond b (live_order (slot_orders slots) reference)
    (cond (nat_eq reference s.reference) (Some s.order)
    (live_order (slot_orders slots) reference))) [
      | true ↦ refl
      | false ↦ refl
    ]

held_first : (s : Slot) (slots : List Slot) (reference : ℕ) → s.reference ≡ reference
    → (s.order.shares ≡ 0 → ⊥) → IsHeldAt (s ∷ slots) 0 reference
held_first s slots reference same some =
    record { below = omega arith; reference_is = λ d. same; live = λ d. some }

pub held_later : (s : Slot) (slots : List Slot) (k reference : ℕ) → IsHeldAt slots k reference
    → IsHeldAt (s ∷ slots) (suc k) reference
held_later s slots k reference held = record {
  below = omega (arith, held.below);
  reference_is = held.reference_is;
  live = held.live;
}

held_earlier : (s : Slot) (slots : List Slot) (k reference : ℕ)
    → IsHeldAt (s ∷ slots) (suc k) reference → IsHeldAt slots k reference
held_earlier s slots k reference held = record {
  below = omega (arith, held.below);
  reference_is = held.reference_is;
  live = held.live;
}

-- the first place has another order
pub skip_first : (s : Slot) (slots : List Slot) (reference : ℕ)
    → (IsHeldAt (s ∷ slots) 0 reference → ⊥)
    → live_order (slot_orders (s ∷ slots)) reference ≡ live_order (slot_orders slots) reference
skip_first s slots reference apart =
    let rest = live_order (slot_orders slots) reference in
    let here = cond (nat_eq reference s.reference) (Some s.order) rest in
    lookup_slot s slots reference ∙ (elim (cases_eq s.order.shares 0) [
      | inl empty ↦ ap (λ b. cond b rest here) (eq-eqb s.order.shares 0 empty)
      | inr some ↦ ap (λ b. cond b rest here) (ne_eqb s.order.shares 0 some)
          ∙ ap (λ b. cond b (Some s.order) rest) (ne_eqb reference s.reference
          (λ e. apart (held_first s slots reference (sym e) some)))
    ])

pub lookup_missing : (slots : List Slot) (reference : ℕ)
    → ((k : ℕ) → IsHeldAt slots k reference → ⊥)
    → live_order (slot_orders slots) reference ≡ None
lookup_missing [] reference apart = refl
lookup_missing (s ∷ slots) reference apart =
    skip_first s slots reference (apart 0)
    ∙ lookup_missing slots reference
    (λ k h. apart (suc k) (held_later s slots k reference h))

lookup_held : (slots : List Slot) (k reference : ℕ) (d : Slot) → IsHeldAt slots k reference
    → ((j : ℕ) → IsHeldAt slots j reference → j ≡ k)
    → live_order (slot_orders slots) reference ≡ Some (get_or slots k d).order
lookup_held [] k reference d held once = absurd (omega (arith, held.below))
lookup_held (s ∷ slots) zero reference d held once =
    let rest = live_order (slot_orders slots) reference in
    let here = cond (nat_eq reference s.reference) (Some s.order) rest in
    lookup_slot s slots reference
    ∙ ap (λ b. cond b rest here) (ne_eqb s.order.shares 0 (held.live d))
    ∙ ap (λ b. cond b (Some s.order) rest)
    (eq-eqb reference s.reference (sym (held.reference_is d)))
lookup_held (s ∷ slots) (suc k) reference d held once =
    skip_first s slots reference
    (λ first. (
    let e = once 0 first in
    let no : ⊥ = omega (arith, e) in no
    ))
    ∙ lookup_held slots k reference d (held_earlier s slots k reference held)
    (λ j h. (
    let e = once (suc j) (held_later s slots j reference h) in
    omega (arith, e)
    ))

-- ---- an order that is stored

pub stored_held : (mask : ℕ) (slots : List Slot) (beyond : List (ℕ × Order)) (k reference : ℕ)
    (d : Slot) → AreStored mask slots beyond → IsHeldAt slots k reference
    → live_order (stored_orders slots beyond) reference ≡ Some (get_or slots k d).order
stored_held mask slots beyond k reference d stored held =
    lookup_first (slot_orders slots) beyond reference (get_or slots k d).order
    (lookup_held slots k reference d held (λ j h. stored.once j k reference h held))

pub stored_beyond : (slots : List Slot) (beyond : List (ℕ × Order)) (reference : ℕ)
    → ((k : ℕ) → IsHeldAt slots k reference → ⊥)
    → live_order (stored_orders slots beyond) reference ≡ live_order beyond reference
stored_beyond slots beyond reference apart =
    lookup_second (slot_orders slots) beyond reference (lookup_missing slots reference apart)

-- none is stored, so none has a place
pub none_held : (mask : ℕ) (slots : List Slot) (beyond : List (ℕ × Order)) (reference : ℕ)
    → AreStored mask slots beyond
    → live_order (stored_orders slots beyond) reference ≡ None
    → (k : ℕ) → IsHeldAt slots k reference → ⊥
none_held mask slots beyond reference stored none k held =
    let d : Slot = record {
      reference = 0;
      order = record { side = 0; rank = 0; shares = 0 };
      beyond = 0;
    } in
    none-some (get_or slots k d).order
    (sym none ∙ stored_held mask slots beyond k reference d stored held)

pub none_beyond : (mask : ℕ) (slots : List Slot) (beyond : List (ℕ × Order)) (reference : ℕ)
    → AreStored mask slots beyond
    → live_order (stored_orders slots beyond) reference ≡ None
    → live_order beyond reference ≡ None
none_beyond mask slots beyond reference stored none =
    sym (stored_beyond slots beyond reference (none_held mask slots beyond reference stored none))
    ∙ none
