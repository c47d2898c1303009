-- Orders beyond their buckets: one is put, shares of one are gone.
use Rattle.std.proofs.Common.{◌≡◌, ℕ, zero, suc, ◌+◌, ◌-◌, ◌*◌, ◌<◌, ◌≤◌, cond, List, [], ◌∷◌, ◌++◌, length, get_or, set, refl, sym, ap, ◌∙◌, subst, arith, inl, inr, length-set}
use Rattle.std.specs.Prelude.{◌==◌, nat_eq, sum_by, Some, None}
use Rattle.std.specs.Map.{keys_of, values_of}
use Rattle.std.proofs.lemmas.Bool.{cases_eq, eq-eqb, ne_eqb}
use Rattle.std.proofs.lemmas.List.{get_or_default, get_or-set_same, get_or-set_other}
use Rattle.std.proofs.lemmas.Nat.{and_le_r}
use Rattle.itch_book.specs.declared.order.Order.{Order}
use Rattle.itch_book.specs.declared.slot.Slot.{Slot}
use Rattle.itch_book.specs.Orders.{live_order}
use Rattle.itch_book.specs.Slots.{AreStored, IsHeldAt, IsPut, IsReduced, bucket_of, is_of_bucket, order_left, slot_orders, stored_orders, weight, with_beyond}
use Rattle.itch_book.proofs.MapKeys.{key_counts}
use Rattle.itch_book.proofs.StoredOrders.{either, lookup-append, lookup_missing, none_held, stored_beyond}
use Rattle.itch_book.proofs.SetSlots.{held_after, sum-stored}
use Rattle.itch_book.proofs.Stored.{left-none, left-some, no_order, reduced-none}

-- ---- an edit beyond the buckets

set_beyond-orders : (slots : List Slot) (p n : ℕ) (d : Slot) → p < length slots
    → slot_orders (set slots p (with_beyond n (get_or slots p d))) ≡ slot_orders slots
set_beyond-orders [] p n d h = absurd (omega (arith, h))
set_beyond-orders (x ∷ slots) zero n d h = refl
set_beyond-orders (x ∷ slots) (suc p) n d h =
    ap (λ ys. cond (x.order.shares == 0) ys ((x.reference, x.order) ∷ ys))
    (set_beyond-orders slots p n d (omega (arith, h)))

held-beyond : (slots : List Slot) (p n k reference : ℕ) (d : Slot) → p < length slots
    → IsHeldAt (set slots p (with_beyond n (get_or slots p d))) k reference
    → IsHeldAt slots k reference
held-beyond slots p n k reference d h held =
    elim (held_after slots p k reference (with_beyond n (get_or slots p d)) held) [
      | inl here ↦ record {
        below = omega (arith, h, here.0);
        reference_is = λ e. ap (λ m. (get_or slots m e).reference) here.0
            ∙ ap (λ (x : Slot). x.reference) (get_or_default slots p e d h) ∙ here.1;
        live = λ e empty. here.2 (
            ap (λ (x : Slot). x.order.shares) (sym (get_or_default slots p e d h))
            ∙ ap (λ m. (get_or slots m e).order.shares) (sym here.0) ∙ empty);
      }
      | inr there ↦ there.1
    ]

-- the orders beyond the buckets are others, of one bucket
stored_other : (mask : ℕ) (slots : List Slot) (beyond after : List (ℕ × Order))
    (reference p n : ℕ) (d : Slot) → AreStored mask slots beyond → p < length slots
    → p ≡ bucket_of mask reference * 4
    → ((k other : ℕ) → IsHeldAt slots k other → live_order after other ≡ None)
    → n ≡ sum_by (is_of_bucket mask (bucket_of mask reference)) (keys_of after)
    → ((bucket : ℕ) → (bucket_of mask reference ≡ bucket → ⊥)
    → sum_by (is_of_bucket mask bucket) (keys_of after)
    ≡ sum_by (is_of_bucket mask bucket) (keys_of beyond))
    → AreStored mask (set slots p (with_beyond n (get_or slots p d))) after
stored_other mask slots beyond after reference p n d stored h is apart here others =
    let s = with_beyond n (get_or slots p d) in
    record {
      whole = length-set slots p s ∙ stored.whole;
      home = λ k r i. stored.home k r (held-beyond slots p n k r d h i);
      once = λ j k r i l. stored.once j k r (held-beyond slots p n j r d h i)
          (held-beyond slots p n k r d h l);
      apart = λ k r i. apart k r (held-beyond slots p n k r d h i);
      counted = λ bucket e few. elim (cases_eq bucket (bucket_of mask reference)) [
        | inl same ↦ (
            let at : bucket * 4 ≡ p = ap (λ m. m * 4) same ∙ sym is in
            ap (λ m. (get_or (set slots p s) m e).beyond) at
            ∙ ap (λ (x : Slot). x.beyond) (get_or-set_same slots p s e h)
            ∙ here
            ∙ ap (λ m. sum_by (is_of_bucket mask m) (keys_of after)) (sym same)
            )
        | inr ne ↦ ap (λ (x : Slot). x.beyond) (get_or-set_other slots p (bucket * 4) s e
            (λ at. ne (omega (arith, at, is))))
            ∙ stored.counted bucket e few ∙ sym (others bucket (λ same. ne (sym same)))
      ];
    }

is_own : (mask reference : ℕ) → is_of_bucket mask (bucket_of mask reference) reference ≡ 1
is_own mask reference =
    ap (λ b. cond b 1 0) (eq-eqb (bucket_of mask reference) (bucket_of mask reference) refl)

is_others : (mask bucket reference : ℕ) → (bucket_of mask reference ≡ bucket → ⊥)
    → is_of_bucket mask bucket reference ≡ 0
is_others mask bucket reference apart =
    ap (λ b. cond b 1 0) (ne_eqb (bucket_of mask reference) bucket apart)

few_of : (reference mask : ℕ) → bucket_of mask reference ≤ mask
few_of reference mask = and_le_r reference mask

pub stored_put_beyond : (mask : ℕ) (slots : List Slot) (beyond after : List (ℕ × Order))
    (reference : ℕ) (order : Order) (p n : ℕ) (d : Slot) → AreStored mask slots beyond
    → p < length slots → p ≡ bucket_of mask reference * 4
    → live_order (stored_orders slots beyond) reference ≡ None
    → n ≡ (get_or slots p d).beyond + 1
    → ((other : ℕ) → live_order after other
    ≡ cond (nat_eq reference other) (Some order) (live_order beyond other))
    → ((f : Order → ℕ) → sum_by f (values_of after) ≡ sum_by f (values_of beyond) + f order)
    → ((f : ℕ → ℕ) → sum_by f (keys_of after) ≡ sum_by f (keys_of beyond) + f reference)
    → AreStored mask (set slots p (with_beyond n (get_or slots p d))) after
    × IsPut reference order (stored_orders slots beyond)
    (stored_orders (set slots p (with_beyond n (get_or slots p d))) after)
unfolding either
stored_put_beyond mask slots beyond after reference order p n d stored h is none more each sums
    keys =
    let bucket = bucket_of mask reference in
    let s = with_beyond n (get_or slots p d) in
    let apart = none_held mask slots beyond reference stored none in
    let same : slot_orders (set slots p s) ≡ slot_orders slots =
    set_beyond-orders slots p n d h in
    let counted : (get_or slots p d).beyond ≡ sum_by (is_of_bucket mask bucket) (keys_of beyond) =
    ap (λ m. (get_or slots m d).beyond) is
    ∙ stored.counted bucket d (few_of reference mask) in (
      stored_other mask slots beyond after reference p n d stored h is
          (λ k other held. each other
          ∙ ap (λ b. cond b (Some order) (live_order beyond other))
          (ne_eqb reference other (λ e. apart k (subst (λ r. IsHeldAt slots k r) (sym e) held)))
          ∙ stored.apart k other held)
          (omega (arith, more, counted, keys (is_of_bucket mask bucket), is_own mask reference))
          (λ b ne. omega (arith, keys (is_of_bucket mask b), is_others mask b reference ne)),
      record {
        orders = λ other. (
            ap (λ os. live_order (os ++ after) other) same
            ∙ lookup-append (slot_orders slots) after other
            ∙ ap (λ o. either (live_order (slot_orders slots) other) o) (each other)
            ∙ elim (cases_eq reference other) [
              | inl e ↦ ap (λ b. either (live_order (slot_orders slots) other)
                  (cond b (Some order) (live_order beyond other))) (eq-eqb reference other e)
                  ∙ ap (λ o. either o (Some order)) (lookup_missing slots other
                  (λ k held. apart k (subst (λ r. IsHeldAt slots k r) (sym e) held)))
                  ∙ sym (ap (λ b. cond b (Some order)
                  (live_order (stored_orders slots beyond) other))
                  (eq-eqb reference other e))
              | inr ne ↦ ap (λ b. either (live_order (slot_orders slots) other)
                  (cond b (Some order) (live_order beyond other))) (ne_eqb reference other ne)
                  ∙ sym (lookup-append (slot_orders slots) beyond other)
                  ∙ sym (ap (λ b. cond b (Some order)
                  (live_order (stored_orders slots beyond) other))
                  (ne_eqb reference other ne))
            ]
            );
        sums = λ f. omega (
          arith,
          ap (λ os. sum_by f (values_of (os ++ after))) same,
          sum-stored f (slot_orders slots) after,
          sum-stored f (slot_orders slots) beyond,
          sums f,
        );
      },
    )

-- shares of an order beyond its bucket are gone
reduced-beyond : (slots : List Slot) (os beyond after : List (ℕ × Order))
    (reference shares : ℕ) (o : Order) → ((k : ℕ) → IsHeldAt slots k reference → ⊥)
    → os ≡ slot_orders slots → live_order beyond reference ≡ Some o
    → ((other : ℕ) → live_order after other
    ≡ cond (nat_eq reference other) (order_left (Some o) shares) (live_order beyond other))
    → ((f : Order → ℕ) → sum_by f (values_of after) + f o
    ≡ sum_by f (values_of beyond) + weight f (order_left (Some o) shares))
    → IsReduced reference shares (stored_orders slots beyond) (os ++ after)
unfolding either
reduced-beyond slots os beyond after reference shares o apart same there each sums =
    let was : live_order (stored_orders slots beyond) reference ≡ Some o =
    stored_beyond slots beyond reference apart ∙ there in
    record {
      orders = λ other. (
          ap (λ xs. live_order (xs ++ after) other) same
          ∙ lookup-append (slot_orders slots) after other
          ∙ ap (λ x. either (live_order (slot_orders slots) other) x) (each other)
          ∙ elim (cases_eq reference other) [
            | inl e ↦ ap (λ b. either (live_order (slot_orders slots) other)
                (cond b (order_left (Some o) shares) (live_order beyond other)))
                (eq-eqb reference other e)
                ∙ ap (λ x. either x (order_left (Some o) shares)) (lookup_missing slots other
                (λ k held. apart k (subst (λ r. IsHeldAt slots k r) (sym e) held)))
                ∙ sym (ap (λ x. order_left x shares) was)
                ∙ sym (ap (λ b. cond b
                (order_left (live_order (stored_orders slots beyond) reference) shares)
                (live_order (stored_orders slots beyond) other)) (eq-eqb reference other e))
            | inr ne ↦ ap (λ b. either (live_order (slot_orders slots) other)
                (cond b (order_left (Some o) shares) (live_order beyond other)))
                (ne_eqb reference other ne)
                ∙ sym (lookup-append (slot_orders slots) beyond other)
                ∙ sym (ap (λ b. cond b
                (order_left (live_order (stored_orders slots beyond) reference) shares)
                (live_order (stored_orders slots beyond) other)) (ne_eqb reference other ne))
          ]
          );
      sums = λ f. omega (
        arith,
        ap (λ xs. sum_by f (values_of (xs ++ after))) same,
        sum-stored f (slot_orders slots) after,
        sum-stored f (slot_orders slots) beyond,
        sums f,
        ap (λ x. weight f x) was,
        ap (λ x. weight f (order_left x shares)) was,
      );
    }

-- it is gone
pub stored_remove_beyond : (mask : ℕ) (slots : List Slot) (beyond after : List (ℕ × Order))
    (reference shares : ℕ) (o : Order) (p n : ℕ) (d : Slot) → AreStored mask slots beyond
    → ((k : ℕ) → IsHeldAt slots k reference → ⊥)
    → p < length slots → p ≡ bucket_of mask reference * 4
    → live_order beyond reference ≡ Some o → o.shares ≤ shares
    → n + 1 ≡ (get_or slots p d).beyond
    → ((other : ℕ) → live_order after other
    ≡ cond (nat_eq reference other) None (live_order beyond other))
    → ((f : Order → ℕ) → sum_by f (values_of after) + weight f (live_order beyond reference)
    ≡ sum_by f (values_of beyond))
    → ((f : ℕ → ℕ) → sum_by f (keys_of after) + f reference ≡ sum_by f (keys_of beyond))
    → AreStored mask (set slots p (with_beyond n (get_or slots p d))) after
    × IsReduced reference shares (stored_orders slots beyond)
    (stored_orders (set slots p (with_beyond n (get_or slots p d))) after)
stored_remove_beyond mask slots beyond after reference shares o p n d stored apart h is there less
    fewer each sums keys =
    let bucket = bucket_of mask reference in
    let none : order_left (Some o) shares ≡ None = left-none o shares less in
    let counted : (get_or slots p d).beyond ≡ sum_by (is_of_bucket mask bucket) (keys_of beyond) =
    ap (λ m. (get_or slots m d).beyond) is
    ∙ stored.counted bucket d (few_of reference mask) in (
      stored_other mask slots beyond after reference p n d stored h is
          (λ k other held. each other
          ∙ ap (λ b. cond b None (live_order beyond other))
          (ne_eqb reference other (λ e. apart k (subst (λ r. IsHeldAt slots k r) (sym e) held)))
          ∙ stored.apart k other held)
          (omega (arith, fewer, counted, keys (is_of_bucket mask bucket), is_own mask reference))
          (λ b ne. omega (arith, keys (is_of_bucket mask b), is_others mask b reference ne)),
      reduced-beyond slots (slot_orders (set slots p (with_beyond n (get_or slots p d)))) beyond
          after
          reference shares o apart (set_beyond-orders slots p n d h) there
          (λ other. each other
          ∙ ap (λ x. cond (nat_eq reference other) x (live_order beyond other)) (sym none))
          (λ f. omega (
            arith,
            sums f,
            ap (λ x. weight f x) there,
            ap (λ x. weight f x) none,
          )),
    )

-- some are left
pub stored_set_beyond : (mask : ℕ) (slots : List Slot) (beyond after : List (ℕ × Order))
    (reference shares : ℕ) (o less : Order) → AreStored mask slots beyond
    → ((k : ℕ) → IsHeldAt slots k reference → ⊥)
    → live_order beyond reference ≡ Some o → shares < o.shares
    → less ≡ record o { shares = o.shares - shares }
    → ((other : ℕ) → live_order after other
    ≡ cond (nat_eq reference other) (Some less) (live_order beyond other))
    → ((f : Order → ℕ) → sum_by f (values_of after) + weight f (live_order beyond reference)
    ≡ sum_by f (values_of beyond) + f less)
    → ((f : ℕ → ℕ) → sum_by f (keys_of after) ≡ sum_by f (keys_of beyond))
    → AreStored mask slots after
    × IsReduced reference shares (stored_orders slots beyond) (stored_orders slots after)
stored_set_beyond mask slots beyond after reference shares o less stored apart there more is each
    sums keys =
    let some : order_left (Some o) shares ≡ Some less =
    left-some o shares more ∙ ap (λ (x : Order). Some x) (sym is) in (
      record {
        whole = stored.whole;
        home = stored.home;
        once = stored.once;
        apart = λ k other held. each other
            ∙ ap (λ b. cond b (Some less) (live_order beyond other))
            (ne_eqb reference other (λ e. apart k (subst (λ r. IsHeldAt slots k r) (sym e) held)))
            ∙ stored.apart k other held;
        counted = λ bucket d few. stored.counted bucket d few
            ∙ sym (keys (is_of_bucket mask bucket));
      },
      reduced-beyond slots (slot_orders slots) beyond after reference shares o apart refl there
          (λ other. each other
          ∙ ap (λ x. cond (nat_eq reference other) x (live_order beyond other)) (sym some))
          (λ f. omega (
            arith,
            sums f,
            ap (λ x. weight f x) there,
            ap (λ x. weight f x) some,
          )),
    )

-- a bucket beyond which there is none
pub none_counted : (mask : ℕ) (slots : List Slot) (beyond : List (ℕ × Order)) (reference p : ℕ)
    (d : Slot) → AreStored mask slots beyond → p ≡ bucket_of mask reference * 4
    → (get_or slots p d).beyond ≡ 0 → live_order beyond reference ≡ None
none_counted mask slots beyond reference p d stored is none =
    let bucket = bucket_of mask reference in
    let counted : (get_or slots p d).beyond ≡ sum_by (is_of_bucket mask bucket) (keys_of beyond) =
    ap (λ m. (get_or slots m d).beyond) is
    ∙ stored.counted bucket d (few_of reference mask) in
    no_order (live_order beyond reference) (λ o there. (
    let least = key_counts (is_of_bucket mask bucket) beyond reference o there in
    let no : ⊥ = omega (arith, least, counted, none, is_own mask reference) in no
    ))

pub reduced_none_beyond : (slots : List Slot) (beyond : List (ℕ × Order))
    (reference shares : ℕ) → ((k : ℕ) → IsHeldAt slots k reference → ⊥)
    → live_order beyond reference ≡ None
    → (None ≡ live_order (stored_orders slots beyond) reference)
    × IsReduced reference shares (stored_orders slots beyond) (stored_orders slots beyond)
reduced_none_beyond slots beyond reference shares apart none =
    let gone = stored_beyond slots beyond reference apart ∙ none in
    (sym gone, reduced-none reference shares (stored_orders slots beyond) gone)
