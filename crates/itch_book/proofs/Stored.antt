-- Orders in places: one is put, shares of one are gone.
use Rattle.std.proofs.Common.{◌≡◌, ℕ, zero, suc, ◌+◌, ◌-◌, ◌*◌, ◌/◌, ◌<◌, ◌≤◌, cond, List, [], ◌∷◌, ◌++◌, length, get_or, set, refl, sym, ap, ◌∙◌, subst, arith, inl, inr, replicate}
use Rattle.std.specs.Prelude.{Option, Some, None}
use Rattle.std.proofs.lemmas.Bool.{cases_eq, cases_lt, eq-eqb, ne_eqb, le-leb, lt-leb}
use Rattle.std.proofs.lemmas.List.{get_or_default, get_or-set_same, length-replicate}
use Rattle.itch_book.specs.declared.order.Order.{Order}
use Rattle.itch_book.specs.declared.slot.Slot.{Slot}
use Rattle.itch_book.specs.Orders.{live_order}
use Rattle.itch_book.specs.Slots.{AreStored, IsFreeAt, IsHeldAt, IsPut, IsReduced, bucket_of, order_left, reduced_slot, slot_orders, stored_orders, weight}
use Rattle.itch_book.proofs.StoredOrders.{lookup_alike, none_beyond, none_held, stored_beyond, stored_held}
use Rattle.itch_book.proofs.SetSlots.{CanSet, held_after, held_set, lookup_other, slot_weight, stored_set, sum-set, sum-stored, weight_free, weight_live}

-- ---- an order is put into a free place

abbrev pub filled : ℕ → Order → Slot → Slot
filled reference order slot =
    record { reference = reference; order = order; beyond = slot.beyond }

record Puts (mask : ℕ) (slots : List Slot) (beyond : List (ℕ × Order)) (p reference : ℕ)
    (order : Order) : Type 0 where
  stored : AreStored mask slots beyond
  free : IsFreeAt slots p
  home : p / 4 ≡ bucket_of mask reference
  some : order.shares ≡ 0 → ⊥
  none : live_order (stored_orders slots beyond) reference ≡ None

unfoldable pub free_slot : Slot
free_slot = record {
  reference = 0;
  order = record { side = 0; rank = 0; shares = 0 };
  beyond = 0;
}

can_put : (mask : ℕ) (slots : List Slot) (beyond : List (ℕ × Order)) (p reference : ℕ)
    (order : Order) (s : Slot) → Puts mask slots beyond p reference order
    → ((d : Slot) → s ≡ record {
      reference = reference;
      order = order;
      beyond = (get_or slots p d).beyond;
    })
    → CanSet mask slots beyond p s
unfolding free_slot
can_put mask slots beyond p reference order s puts is = record {
  below = puts.free.below;
  beyond_is = λ d. ap (λ (x : Slot). x.beyond) (is d);
  home = λ some. puts.home ∙ ap (λ (x : Slot). bucket_of mask x.reference) (sym (is free_slot));
  once = λ j some h. absurd (none_held mask slots beyond reference puts.stored puts.none j
      (subst (λ r. IsHeldAt slots j r) (ap (λ (x : Slot). x.reference) (is free_slot)) h));
  apart = λ some. ap (λ (x : Slot). live_order beyond x.reference) (is free_slot)
      ∙ none_beyond mask slots beyond reference puts.stored puts.none;
}

pub stored_put : (mask : ℕ) (slots : List Slot) (beyond : List (ℕ × Order)) (p reference : ℕ)
    (order : Order) (s : Slot) → AreStored mask slots beyond → IsFreeAt slots p
    → p / 4 ≡ bucket_of mask reference → (order.shares ≡ 0 → ⊥)
    → live_order (stored_orders slots beyond) reference ≡ None
    → ((d : Slot) → s ≡ record {
      reference = reference;
      order = order;
      beyond = (get_or slots p d).beyond;
    })
    → AreStored mask (set slots p s) beyond
    × IsPut reference order (stored_orders slots beyond) (stored_orders (set slots p s) beyond)
unfolding free_slot
stored_put mask slots beyond p reference order s stored free home some none is =
    let puts : Puts mask slots beyond p reference order =
    record { stored = stored; free = free; home = home; some = some; none = none } in
    let after = stored_set mask slots beyond p s stored
    (can_put mask slots beyond p reference order s puts is) in
    let same : s.reference ≡ reference = ap (λ (x : Slot). x.reference) (is free_slot) in
    let order_is : s.order ≡ order = ap (λ (x : Slot). x.order) (is free_slot) in
    let live : s.order.shares ≡ 0 → ⊥ =
    λ e. some (ap (λ (o : Order). o.shares) (sym order_is) ∙ e) in (
      after,
      record {
        orders = λ other. elim (cases_eq reference other) [
          | inl e ↦ subst (λ r. live_order (stored_orders (set slots p s) beyond) r ≡ Some order) e
              (stored_held mask (set slots p s) beyond p reference s after
              (held_set slots p reference s free.below same live)
              ∙ ap (λ (x : Slot). Some x.order) (get_or-set_same slots p s s free.below)
              ∙ ap (λ (o : Order). Some o) order_is)
              ∙ sym (ap (λ b. cond b (Some order) (live_order (stored_orders slots beyond) other))
              (eq-eqb reference other e))
          | inr ne ↦ lookup_alike (slot_orders (set slots p s)) (slot_orders slots) beyond other
              (lookup_other slots p other s (λ h. h.live free_slot (free.free free_slot))
              (λ e. absurd (ne (sym same ∙ e))))
              ∙ sym (ap (λ b. cond b (Some order) (live_order (stored_orders slots beyond) other))
              (ne_eqb reference other ne))
        ];
        sums = λ f. omega (
          arith,
          sum-stored f (slot_orders (set slots p s)) beyond,
          sum-stored f (slot_orders slots) beyond,
          sum-set f slots p s free_slot free.below,
          weight_free f (get_or slots p free_slot) (free.free free_slot),
          weight_live f s live,
          ap f order_is,
        );
      },
    )

pub no_order : (o : Option Order) → ((x : Order) → o ≡ Some x → ⊥) → o ≡ None
no_order None apart = refl
no_order (Some x) apart = absurd (apart x refl)

-- ---- shares of an order in a place are gone

pub reduced-none : (reference shares : ℕ) (orders : List (ℕ × Order))
    → live_order orders reference ≡ None → IsReduced reference shares orders orders
reduced-none reference shares orders none = record {
  orders = λ other. elim (cases_eq reference other) [
    | inl e ↦ ap (live_order orders) (sym e) ∙ none ∙ sym (ap (λ o. order_left o shares) none)
        ∙ sym (ap (λ b. cond b (order_left (live_order orders reference) shares)
        (live_order orders other)) (eq-eqb reference other e))
    | inr ne ↦ sym (ap (λ b. cond b (order_left (live_order orders reference) shares)
        (live_order orders other)) (ne_eqb reference other ne))
  ];
  sums = λ f. omega (
    arith,
    ap (λ o. weight f o) none,
    ap (λ o. weight f (order_left o shares)) none,
  );
}

-- what is left of an order, where none is and where some are
pub left-none : (o : Order) (shares : ℕ) → o.shares ≤ shares → order_left (Some o) shares ≡ None
left-none o shares h =
    ap (λ b. cond b None (Some (record o { shares = o.shares - shares })))
    (le-leb o.shares shares h)

pub left-some : (o : Order) (shares : ℕ) → shares < o.shares
    → order_left (Some o) shares ≡ Some (record o { shares = o.shares - shares })
left-some o shares h =
    ap (λ b. cond b None (Some (record o { shares = o.shares - shares })))
    (lt-leb o.shares shares h)

left_weight : (f : Order → ℕ) (o : Order) (s : Slot) (shares : ℕ)
    → s.order ≡ record o { shares = o.shares - shares }
    → slot_weight f s ≡ weight f (order_left (Some o) shares)
left_weight f o s shares is =
    let less : s.order.shares ≡ o.shares - shares = ap (λ (x : Order). x.shares) is in
    elim (cases_lt shares o.shares) [
      | inl some ↦ weight_live f s (λ e. omega (arith, e, less, some)) ∙ ap f is
          ∙ sym (ap (weight f) (left-some o shares some))
      | inr none ↦ weight_free f s (omega (arith, less, none))
          ∙ sym (ap (weight f) (left-none o shares none))
    ]

can_reduce : (mask : ℕ) (slots : List Slot) (beyond : List (ℕ × Order)) (p reference shares : ℕ)
    (s : Slot) → AreStored mask slots beyond → IsHeldAt slots p reference
    → ((d : Slot) → s ≡ reduced_slot shares (get_or slots p d)) → CanSet mask slots beyond p s
unfolding free_slot
can_reduce mask slots beyond p reference shares s stored held is =
    let same : s.reference ≡ reference =
    ap (λ (x : Slot). x.reference) (is free_slot) ∙ held.reference_is free_slot in
    record {
      below = held.below;
      beyond_is = λ d. ap (λ (x : Slot). x.beyond) (is d);
      home = λ some. stored.home p reference held ∙ ap (bucket_of mask) (sym same);
      once = λ j some h. stored.once j p reference (subst (λ r. IsHeldAt slots j r) same h) held;
      apart = λ some. ap (live_order beyond) same ∙ stored.apart p reference held;
    }

reduced_lookup : (mask : ℕ) (slots : List Slot) (beyond : List (ℕ × Order))
    (p reference shares : ℕ) (s : Slot) (o : Order) → AreStored mask slots beyond
    → AreStored mask (set slots p s) beyond → IsHeldAt slots p reference
    → s.reference ≡ reference → s.order ≡ record o { shares = o.shares - shares }
    → live_order (stored_orders (set slots p s) beyond) reference ≡ order_left (Some o) shares
reduced_lookup mask slots beyond p reference shares s o stored after held same is =
    let less : s.order.shares ≡ o.shares - shares = ap (λ (x : Order). x.shares) is in
    elim (cases_lt shares o.shares) [
      | inl some ↦ stored_held mask (set slots p s) beyond p reference s after
          (held_set slots p reference s held.below same
          (λ e. omega (arith, e, less, some)))
          ∙ ap (λ (x : Slot). Some x.order) (get_or-set_same slots p s s held.below)
          ∙ ap (λ (x : Order). Some x) is ∙ sym (left-some o shares some)
      | inr none ↦ stored_beyond (set slots p s) beyond reference
          (λ k h. elim (held_after slots p k reference s h) [
            | inl here ↦ here.2 (omega (arith, less, none))
            | inr there ↦ there.0 (stored.once k p reference there.1 held)
          ])
          ∙ stored.apart p reference held ∙ sym (left-none o shares none)
    ]

pub stored_reduce : (mask : ℕ) (slots : List Slot) (beyond : List (ℕ × Order))
    (p reference shares : ℕ) (s : Slot) → AreStored mask slots beyond
    → IsHeldAt slots p reference → ((d : Slot) → s ≡ reduced_slot shares (get_or slots p d))
    → AreStored mask (set slots p s) beyond
    × IsReduced reference shares (stored_orders slots beyond)
    (stored_orders (set slots p s) beyond)
unfolding free_slot
stored_reduce mask slots beyond p reference shares s stored held is =
    let o = (get_or slots p free_slot).order in
    let after = stored_set mask slots beyond p s stored
    (can_reduce mask slots beyond p reference shares s stored held is) in
    let same : s.reference ≡ reference =
    ap (λ (x : Slot). x.reference) (is free_slot) ∙ held.reference_is free_slot in
    let order_is : s.order ≡ record o { shares = o.shares - shares } =
    ap (λ (x : Slot). x.order) (is free_slot) in
    let was : live_order (stored_orders slots beyond) reference ≡ Some o =
    stored_held mask slots beyond p reference free_slot stored held in (
      after,
      record {
        orders = λ other. elim (cases_eq reference other) [
          | inl e ↦ ap (live_order (stored_orders (set slots p s) beyond)) (sym e)
              ∙ reduced_lookup mask slots beyond p reference shares s o stored after held same
              order_is
              ∙ sym (ap (λ x. order_left x shares) was)
              ∙ sym (ap (λ b. cond b
              (order_left (live_order (stored_orders slots beyond) reference) shares)
              (live_order (stored_orders slots beyond) other)) (eq-eqb reference other e))
          | inr ne ↦ lookup_alike (slot_orders (set slots p s)) (slot_orders slots) beyond other
              (lookup_other slots p other s
              (λ h. ne (sym (held.reference_is free_slot) ∙ h.reference_is free_slot))
              (λ e. absurd (ne (sym same ∙ e))))
              ∙ sym (ap (λ b. cond b
              (order_left (live_order (stored_orders slots beyond) reference) shares)
              (live_order (stored_orders slots beyond) other)) (ne_eqb reference other ne))
        ];
        sums = λ f. omega (
          arith,
          sum-stored f (slot_orders (set slots p s)) beyond,
          sum-stored f (slot_orders slots) beyond,
          sum-set f slots p s free_slot held.below,
          weight_live f (get_or slots p free_slot) (held.live free_slot),
          left_weight f o s shares order_is,
          ap (λ x. weight f x) was,
          ap (λ x. weight f (order_left x shares)) was,
        );
      },
    )

-- ---- no orders

free-orders : (n : ℕ) (s : Slot) → s.order.shares ≡ 0 → slot_orders (replicate n s) ≡ []
free-orders zero s free = refl
free-orders (suc n) s free =
    ap (λ b. cond b (slot_orders (replicate n s))
    ((s.reference, s.order) ∷ slot_orders (replicate n s))) (eq-eqb s.order.shares 0 free)
    ∙ free-orders n s free

get_or-free : (n k : ℕ) (s d : Slot) → k < n → get_or (replicate n s) k d ≡ s
get_or-free zero k s d h = absurd (omega (arith, h))
get_or-free (suc n) zero s d h = refl
get_or-free (suc n) (suc k) s d h = get_or-free n k s d (omega (arith, h))

get_or-replicate_same : (n k : ℕ) (s : Slot) → get_or (replicate n s) k s ≡ s
get_or-replicate_same zero k s = refl
get_or-replicate_same (suc n) zero s = refl
get_or-replicate_same (suc n) (suc k) s = get_or-replicate_same n k s

free-held : (n k reference : ℕ) (s : Slot) → s.order.shares ≡ 0
    → IsHeldAt (replicate n s) k reference → ⊥
free-held n k reference s free held =
    held.live s (ap (λ (x : Slot). x.order.shares) (get_or-replicate_same n k s) ∙ free)

pub stored_none : (mask n : ℕ) (s : Slot) → s.order.shares ≡ 0 → s.beyond ≡ 0
    → n ≡ (mask + 1) * 4
    → AreStored mask (replicate n s) [] × (stored_orders (replicate n s) [] ≡ [])
stored_none mask n s free none is = (
  record {
    whole = length-replicate n s ∙ is;
    home = λ k r h. absurd (free-held n k r s free h);
    once = λ j k r h i. absurd (free-held n j r s free h);
    apart = λ k r h. refl;
    counted = λ bucket d few. ap (λ (x : Slot). x.beyond)
        (get_or-free n (bucket * 4) s d (omega (arith, few, is))) ∙ none;
  },
  ap (λ os. os ++ []) (free-orders n s free),
)

-- ---- as the functions say it

pub stored_filled : (mask : ℕ) (slots new : List Slot) (beyond : List (ℕ × Order))
    (p reference : ℕ) (order : Order) → AreStored mask slots beyond → IsFreeAt slots p
    → p / 4 ≡ bucket_of mask reference → (order.shares ≡ 0 → ⊥)
    → live_order (stored_orders slots beyond) reference ≡ None
    → ((d : Slot) → new ≡ set slots p (filled reference order (get_or slots p d)))
    → AreStored mask new beyond
    × IsPut reference order (stored_orders slots beyond) (stored_orders new beyond)
stored_filled mask slots new beyond p reference order stored free home some none is =
    subst (λ xs. AreStored mask xs beyond
    × IsPut reference order (stored_orders slots beyond) (stored_orders xs beyond))
    (sym (is free_slot))
    (stored_put mask slots beyond p reference order
    (filled reference order (get_or slots p free_slot)) stored free home some none
    (λ d. ap (filled reference order) (get_or_default slots p free_slot d free.below)))

pub stored_reduced : (mask : ℕ) (slots new : List Slot) (beyond : List (ℕ × Order))
    (p reference shares : ℕ) → AreStored mask slots beyond → IsHeldAt slots p reference
    → ((d : Slot) → new ≡ set slots p (reduced_slot shares (get_or slots p d)))
    → AreStored mask new beyond
    × IsReduced reference shares (stored_orders slots beyond) (stored_orders new beyond)
stored_reduced mask slots new beyond p reference shares stored held is =
    subst (λ xs. AreStored mask xs beyond
    × IsReduced reference shares (stored_orders slots beyond) (stored_orders xs beyond))
    (sym (is free_slot))
    (stored_reduce mask slots beyond p reference shares
    (reduced_slot shares (get_or slots p free_slot)) stored held
    (λ d. ap (reduced_slot shares) (get_or_default slots p free_slot d held.below)))
