-- What is stored where a place gets another slot, and sums over what is stored.
use Rattle.std.proofs.Common.{◌≡◌, ℕ, zero, suc, ◌+◌, ◌-◌, ◌*◌, ◌/◌, ◌<◌, true, false, cond, List, [], ◌∷◌, ◌++◌, length, get_or, set, refl, sym, ap, ◌∙◌, subst, arith, ◌⊎◌, inl, inr, length-set}
use Rattle.std.specs.Prelude.{◌==◌, nat_eq, sum_by, Some, None}
use Rattle.std.specs.Map.{values_of}
use Rattle.std.proofs.lemmas.Bool.{cases_eq, eq-eqb, ne_eqb}
use Rattle.std.proofs.lemmas.List.{get_or-set_same, get_or-set_other}
use Rattle.std.proofs.lemmas.List.Sums.{sum_by-cons}
use Rattle.itch_book.specs.declared.order.Order.{Order}
use Rattle.itch_book.specs.declared.slot.Slot.{Slot}
use Rattle.itch_book.specs.Orders.{live_order}
use Rattle.itch_book.specs.Slots.{AreStored, IsHeldAt, bucket_of, slot_orders}
use Rattle.itch_book.proofs.StoredOrders.{held_later, lookup_slot, skip_first}

-- ---- sums

pub slot_weight : (Order → ℕ) → Slot → ℕ
slot_weight f s = cond (s.order.shares == 0) 0 (f s.order)

sum-slot : (f : Order → ℕ) (s : Slot) (slots : List Slot)
    → sum_by f (values_of (slot_orders (s ∷ slots)))
    ≡ slot_weight f s + sum_by f (values_of (slot_orders slots))
unfolding slot_weight
sum-slot f s slots =
    elim (s.order.shares == 0) as (λ b. sum_by f (values_of (cond b (slot_orders slots)
    ((s.reference, s.order) ∷ slot_orders slots)))
    ≡ cond b 0 (f s.order) + sum_by f (values_of (slot_orders slots))) [
      | true ↦ omega arith
      | false ↦ sum_by-cons f s.order (values_of (slot_orders slots))
    ]

pub sum-stored : (f : Order → ℕ) (xs ys : List (ℕ × Order))
    → sum_by f (values_of (xs ++ ys)) ≡ sum_by f (values_of xs) + sum_by f (values_of ys)
sum-stored f [] ys = omega arith
sum-stored f (x ∷ xs) ys =
    omega (
      arith,
      sum_by-cons f x.1 (values_of (xs ++ ys)),
      sum_by-cons f x.1 (values_of xs),
      sum-stored f xs ys,
    )

pub sum-set : (f : Order → ℕ) (slots : List Slot) (p : ℕ) (s d : Slot) → p < length slots
    → sum_by f (values_of (slot_orders (set slots p s))) + slot_weight f (get_or slots p d)
    ≡ sum_by f (values_of (slot_orders slots)) + slot_weight f s
sum-set f [] p s d h = absurd (omega (arith, h))
sum-set f (x ∷ slots) zero s d h =
    omega (arith, sum-slot f s slots, sum-slot f x slots)
sum-set f (x ∷ slots) (suc p) s d h =
    omega (
      arith,
      sum-slot f x (set slots p s),
      sum-slot f x slots,
      sum-set f slots p s d (omega (arith, h)),
    )

pub weight_live : (f : Order → ℕ) (s : Slot) → (s.order.shares ≡ 0 → ⊥)
    → slot_weight f s ≡ f s.order
unfolding slot_weight
weight_live f s some = ap (λ b. cond b 0 (f s.order)) (ne_eqb s.order.shares 0 some)

pub weight_free : (f : Order → ℕ) (s : Slot) → s.order.shares ≡ 0 → slot_weight f s ≡ 0
unfolding slot_weight
weight_free f s none = ap (λ b. cond b 0 (f s.order)) (eq-eqb s.order.shares 0 none)

-- ---- another slot in a place

pub held_after : (slots : List Slot) (p k reference : ℕ) (s : Slot)
    → IsHeldAt (set slots p s) k reference
    → ((k ≡ p) × (s.reference ≡ reference) × (s.order.shares ≡ 0 → ⊥))
    ⊎ ((k ≡ p → ⊥) × IsHeldAt slots k reference)
held_after slots p k reference s held =
    let below : k < length slots = omega (arith, held.below, length-set slots p s) in
    elim (cases_eq k p) [
      | inl e ↦ (
          let here : get_or (set slots p s) k s ≡ s =
          ap (λ n. get_or (set slots p s) n s) e
          ∙ get_or-set_same slots p s s (omega (arith, below, e)) in
          inl (
            e,
            ap (λ (x : Slot). x.reference) (sym here) ∙ held.reference_is s,
            λ empty. held.live s (ap (λ (x : Slot). x.order.shares) here ∙ empty),
          )
          )
      | inr ne ↦ inr (
        ne,
        record {
          below = below;
          reference_is = λ d. ap (λ (x : Slot). x.reference)
              (sym (get_or-set_other slots p k s d ne)) ∙ held.reference_is d;
          live = λ d empty. held.live d (ap (λ (x : Slot). x.order.shares)
              (get_or-set_other slots p k s d ne) ∙ empty);
        },
      )
    ]

pub held_set : (slots : List Slot) (p reference : ℕ) (s : Slot) → p < length slots
    → s.reference ≡ reference → (s.order.shares ≡ 0 → ⊥) → IsHeldAt (set slots p s) p reference
held_set slots p reference s h same some = record {
  below = omega (arith, h, length-set slots p s);
  reference_is = λ d. ap (λ (x : Slot). x.reference) (get_or-set_same slots p s d h) ∙ same;
  live = λ d empty. some (ap (λ (x : Slot). x.order.shares)
      (sym (get_or-set_same slots p s d h)) ∙ empty);
}

-- what another slot must be, so that the orders are stored
pub record CanSet (mask : ℕ) (slots : List Slot) (beyond : List (ℕ × Order)) (p : ℕ) (s : Slot)
    : Type 0 where
  pub below : p < length slots
  pub beyond_is : (d : Slot) → s.beyond ≡ (get_or slots p d).beyond
  pub home : (s.order.shares ≡ 0 → ⊥) → p / 4 ≡ bucket_of mask s.reference
  pub once : (j : ℕ) → (s.order.shares ≡ 0 → ⊥) → IsHeldAt slots j s.reference → j ≡ p
  pub apart : (s.order.shares ≡ 0 → ⊥) → live_order beyond s.reference ≡ None

set_once : (mask : ℕ) (slots : List Slot) (beyond : List (ℕ × Order)) (p : ℕ) (s : Slot)
    → AreStored mask slots beyond → CanSet mask slots beyond p s → (j k reference : ℕ)
    → IsHeldAt (set slots p s) j reference → IsHeldAt (set slots p s) k reference → j ≡ k
set_once mask slots beyond p s stored can j k reference h i =
    elim (held_after slots p j reference s h) [
      | inl a ↦ elim (held_after slots p k reference s i) [
        | inl b ↦ a.0 ∙ sym b.0
        | inr b ↦ a.0 ∙ sym (can.once k a.2
            (subst (λ r. IsHeldAt slots k r) (sym a.1) b.1))
      ]
      | inr a ↦ elim (held_after slots p k reference s i) [
        | inl b ↦ can.once j b.2 (subst (λ r. IsHeldAt slots j r) (sym b.1) a.1) ∙ sym b.0
        | inr b ↦ stored.once j k reference a.1 b.1
      ]
    ]

pub stored_set : (mask : ℕ) (slots : List Slot) (beyond : List (ℕ × Order)) (p : ℕ) (s : Slot)
    → AreStored mask slots beyond → CanSet mask slots beyond p s
    → AreStored mask (set slots p s) beyond
stored_set mask slots beyond p s stored can = record {
  whole = length-set slots p s ∙ stored.whole;
  home = λ k r h. elim (held_after slots p k r s h) [
    | inl here ↦ ap (λ n. n / 4) here.0 ∙ can.home here.2 ∙ ap (bucket_of mask) here.1
    | inr there ↦ stored.home k r there.1
  ];
  once = set_once mask slots beyond p s stored can;
  apart = λ k r h. elim (held_after slots p k r s h) [
    | inl here ↦ ap (live_order beyond) (sym here.1) ∙ can.apart here.2
    | inr there ↦ stored.apart k r there.1
  ];
  counted = λ bucket d few. elim (cases_eq (bucket * 4) p) [
    | inl e ↦ ap (λ n. (get_or (set slots p s) n d).beyond) e
        ∙ ap (λ (x : Slot). x.beyond) (get_or-set_same slots p s d can.below)
        ∙ can.beyond_is d ∙ ap (λ n. (get_or slots n d).beyond) (sym e)
        ∙ stored.counted bucket d few
    | inr ne ↦ ap (λ (x : Slot). x.beyond) (get_or-set_other slots p (bucket * 4) s d ne)
        ∙ stored.counted bucket d few
  ];
}

-- an order of another reference than the slots before and after
pub lookup_other : (slots : List Slot) (p other : ℕ) (s : Slot)
    → (IsHeldAt slots p other → ⊥) → (s.reference ≡ other → s.order.shares ≡ 0)
    → live_order (slot_orders (set slots p s)) other ≡ live_order (slot_orders slots) other
lookup_other [] p other s before after = refl
lookup_other (x ∷ slots) zero other s before after =
    skip_first s slots other (λ h. h.live s (after (h.reference_is s)))
    ∙ sym (skip_first x slots other before)
lookup_other (x ∷ slots) (suc p) other s before after =
    lookup_slot x (set slots p s) other
    ∙ ap (λ o. cond (x.order.shares == 0) o (cond (nat_eq other x.reference) (Some x.order) o))
    (lookup_other slots p other s
    (λ h. before (held_later x slots p other h)) after)
    ∙ sym (lookup_slot x slots other)
