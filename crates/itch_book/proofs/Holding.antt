-- Tables of orders that hold the same orders, after an edit of both.
use Rattle.std.proofs.Common.{◌≡◌, ℕ, ◌+◌, ◌-◌, ◌≤◌, Bool, true, false, cond, List, [], ◌∷◌, refl, sym, ap, ◌∙◌, subst, arith, inl, inr}
use Rattle.std.specs.Prelude.{nat_eq, nat_le, sum_by, is_some, not, ◌==◌, ◌&&◌, Option, Some, None}
use Rattle.std.specs.List.{AllByRecursion, IsDistinct}
use Rattle.std.specs.Map.{keys_of, values_of, remove_entry, set_value}
use Rattle.std.specs.Option.{option_map, unwrap_or}
use Rattle.std.specs.Cmp.{nat_eq_equiv}
use Rattle.std.proofs.lemmas.Bool.{le-leb, lt-leb, leb-true, eq-eqb, cases_Bool, cases_lt}
use Rattle.std.proofs.lemmas.List.Sums.{sum_by-cons, sum_by-le-sum_by}
use Rattle.std.proofs.lemmas.Map.{NonePasses, lookup-remove_entry, lookup-set_value, none_passes_from_lookup, keys-set_value}
use Rattle.std.proofs.lemmas.Map.Keys.{IsDistinct-cons, IsDistinct-head, IsDistinct-tail}
use Rattle.std.proofs.lemmas.Map.Entries.{sum_by-remove_entry, sum_by-set_value}
use Rattle.itch_book.specs.declared.order.Order.{Order}
use Rattle.itch_book.specs.Bests.{order_shares, depth}
use Rattle.itch_book.specs.Inside.{Holds}
use Rattle.itch_book.specs.Orders.{live_order, reduced_from, with_less, with_order, without_order}
use Rattle.itch_book.specs.Slots.{IsReduced, order_left, weight}
use Rattle.itch_book.proofs.Stored.{left-none, left-some}

one_key : (id x y : ℕ) → nat_eq id x ≡ true → nat_eq id y ≡ nat_eq x y
one_key id x y h = nat_eq_equiv.congr id x y h

-- ---- keys that are there once

none_key : (test : ℕ → Bool) (es : List (ℕ × Order)) → NonePasses test es
    → AllByRecursion (λ (k : ℕ). test k ≡ false) (keys_of es)
none_key test [] none = tt
none_key test (e ∷ es) none = (none.0, none_key test es none.1)

all_without : (P : ℕ → Type 0) (test : ℕ → Bool) (es : List (ℕ × Order))
    → AllByRecursion P (keys_of es) → AllByRecursion P (keys_of (remove_entry test es))
all_without P test [] all = tt
all_without P test (e ∷ es) all =
    elim (test e.0) as (λ b. AllByRecursion P (keys_of (cond b es (e ∷ remove_entry test es)))) [
      | true ↦ all.1
      | false ↦ (all.0, all_without P test es all.1)
    ]

IsDistinct-remove_entry : (test : ℕ → Bool) (es : List (ℕ × Order)) → IsDistinct nat_eq (keys_of es)
    → IsDistinct nat_eq (keys_of (remove_entry test es))
IsDistinct-remove_entry test [] once = once
IsDistinct-remove_entry test (e ∷ es) once =
    elim (test e.0) as (λ b. IsDistinct nat_eq (keys_of (cond b es (e ∷ remove_entry test es)))) [
      | true ↦ IsDistinct-tail nat_eq e.0 (keys_of es) once
      | false ↦ IsDistinct-cons nat_eq e.0 (keys_of (remove_entry test es))
          (all_without (λ (k : ℕ). nat_eq e.0 k ≡ false) test es
          (IsDistinct-head nat_eq e.0 (keys_of es) once))
          (IsDistinct-remove_entry test es (IsDistinct-tail nat_eq e.0 (keys_of es) once))
    ]

-- ---- the edits

weighed : (Order → ℕ) → Option Order → ℕ
weighed f o = unwrap_or (option_map f o) 0

pub Holds-without : (old new orders : List (ℕ × Order)) (id : ℕ) → Holds old orders
    → ((other : ℕ) → live_order new other ≡ cond (nat_eq id other) None (live_order old other))
    → ((f : Order → ℕ) → sum_by f (values_of new) + unwrap_or (option_map f (live_order old id)) 0
    ≡ sum_by f (values_of old))
    → Holds new (without_order id orders)
Holds-without old new orders id h each sums = record {
  each = λ q. each q ∙ ap (λ o. cond (nat_eq id q) None o) (h.each q)
      ∙ sym (lookup-remove_entry nat_eq_equiv (nat_eq id) (one_key id) q orders h.distinct);
  sums = λ f. (
      let gone = ap (λ o. unwrap_or (option_map f o) 0) (h.each id) in
      omega (arith, sums f, h.sums f, gone, sum_by-remove_entry f (nat_eq id) orders)
      );
  distinct = IsDistinct-remove_entry (nat_eq id) orders h.distinct;
}

pub Holds-set : (old new orders : List (ℕ × Order)) (id : ℕ) (was order : Order) → Holds old orders
    → live_order old id ≡ Some was
    → ((other : ℕ) → live_order new other ≡ cond (nat_eq id other) (Some order)
    (live_order old other))
    → ((f : Order → ℕ) → sum_by f (values_of new) + unwrap_or (option_map f (live_order old id)) 0
    ≡ sum_by f (values_of old) + f order)
    → Holds new (set_value (nat_eq id) orders order)
Holds-set old new orders id was order h there each sums =
    let found : live_order orders id ≡ Some was = sym (h.each id) ∙ there in
    record {
      each = λ q. each q ∙ ap (λ o. cond (nat_eq id q) (Some order) o) (h.each q)
          ∙ sym (lookup-set_value nat_eq_equiv (nat_eq id) (one_key id) q order orders
          (subst (λ o. is_some o ≡ true) (sym found) refl));
      sums = λ f. (
          let gone : unwrap_or (option_map f (live_order old id)) 0 ≡ f was =
          ap (λ o. unwrap_or (option_map f o) 0) there in
          omega (
            arith,
            sums f,
            h.sums f,
            gone,
            sum_by-set_value f (nat_eq id) orders was order found,
          )
          );
      distinct = subst (λ ks. IsDistinct nat_eq ks) (sym (keys-set_value (nat_eq id) orders order))
          h.distinct;
    }

pub Holds-with : (old new orders : List (ℕ × Order)) (id : ℕ) (order : Order) → Holds old orders
    → live_order old id ≡ None → (order.shares == 0) ≡ false
    → ((other : ℕ) → live_order new other ≡ cond (nat_eq id other) (Some order)
    (live_order old other))
    → ((f : Order → ℕ) → sum_by f (values_of new) ≡ sum_by f (values_of old) + f order)
    → Holds new (with_order id order orders)
Holds-with old new orders id order h none some each sums =
    let absent : live_order orders id ≡ None = sym (h.each id) ∙ none in
    let one_more : with_order id order orders ≡ (id, order) ∷ orders =
    ap (λ o. cond (is_some o) orders (cond (order.shares == 0) orders
    ((id, order) ∷ orders))) absent
    ∙ ap (λ b. cond b orders ((id, order) ∷ orders)) some in
    subst (λ os. Holds new os) (sym one_more) (record {
      each = λ q. each q
          ∙ ap (λ b. cond b (Some order) (live_order old q)) (nat_eq_equiv.symm id q)
          ∙ ap (λ o. cond (nat_eq q id) (Some order) o) (h.each q);
      sums = λ f. omega (arith, sums f, h.sums f, sum_by-cons f order (values_of orders));
      distinct = IsDistinct-cons nat_eq id (keys_of orders)
          (none_key (nat_eq id) orders (none_passes_from_lookup (nat_eq id) orders absent))
          h.distinct;
    })

-- a table told that it put an order in
pub was_put : (added : Bool) (there : Option Order) → added ≡ true
    → added ≡ not (is_some there) → there ≡ None
was_put true None done e = refl
was_put true (Some order) done e = cc
was_put false None done e = refl
was_put false (Some order) done e = cc

pub Holds-reduced : (old new orders : List (ℕ × Order)) (id shares : ℕ) (o : Order)
    → Holds old orders → live_order old id ≡ Some o → IsReduced id shares old new
    → Holds new (with_less id shares orders)
Holds-reduced old new orders id shares o h there gone =
    let found : live_order orders id ≡ Some o = sym (h.each id) ∙ there in
    let less : Order = record o { shares = o.shares - shares } in
    elim (cases_lt shares o.shares) [
      | inl some ↦ (
          let left = ap (λ x. order_left x shares) there ∙ left-some o shares some in
          subst (λ os. Holds new os)
          (sym (ap (λ x. reduced_from x id shares orders) found
          ∙ ap (λ b. cond b (without_order id orders) (set_value (nat_eq id) orders less))
          (lt-leb o.shares shares some)))
          (Holds-set old new orders id o less h there
          (λ q. gone.orders q ∙ ap (λ x. cond (nat_eq id q) x (live_order old q)) left)
          (λ f. omega (arith, gone.sums f, ap (λ x. weight f x) left)))
          )
      | inr none ↦ (
          let left = ap (λ x. order_left x shares) there ∙ left-none o shares none in
          subst (λ os. Holds new os)
          (sym (ap (λ x. reduced_from x id shares orders) found
          ∙ ap (λ b. cond b (without_order id orders) (set_value (nat_eq id) orders less))
          (le-leb o.shares shares none)))
          (Holds-without old new orders id h
          (λ q. gone.orders q ∙ ap (λ x. cond (nat_eq id q) x (live_order old q)) left)
          (λ f. omega (arith, gone.sums f, ap (λ x. weight f x) left)))
          )
    ]

-- where there is one of its number nothing changes
pub with_order-there : (table orders : List (ℕ × Order)) (id : ℕ) (order : Order)
    → Holds table orders
    → is_some (live_order table id) ≡ true → with_order id order orders ≡ orders
with_order-there table orders id order h there =
    let rest = cond (order.shares == 0) orders ((id, order) ∷ orders) in
    ap (λ o. cond (is_some o) orders rest) (sym (h.each id)) ∙ ap (λ b. cond b orders rest) there

-- nor where it has no shares
pub with_order-empty : (orders : List (ℕ × Order)) (id : ℕ) (order : Order)
    → (order.shares == 0) ≡ true → with_order id order orders ≡ orders
with_order-empty orders id order empty =
    elim (is_some (live_order orders id)) as (λ b.
    cond b orders (cond (order.shares == 0) orders ((id, order) ∷ orders)) ≡ orders) [
      | true ↦ refl
      | false ↦ ap (λ b. cond b orders ((id, order) ∷ orders)) empty
    ]

-- ---- how many shares they show

at_least : (side rank : ℕ) (order : Order)
    → order_shares side (rank + 1) order ≤ order_shares side rank order
at_least side rank order =
    elim (cases_Bool (nat_le (rank + 1) order.rank)) [
      | inl held ↦ (
          let too : nat_le rank order.rank ≡ true =
          le-leb rank order.rank (omega (arith, leb-true (rank + 1) order.rank held)) in
          elim (order.side == side) as (λ b.
          cond (b && nat_le (rank + 1) order.rank) order.shares 0
          ≤ cond (b && nat_le rank order.rank) order.shares 0) [
            | true ↦ rw too (rw held (omega arith))
            | false ↦ omega arith
          ]
          )
      | inr short ↦ (
          elim (order.side == side) as (λ b.
          cond (b && nat_le (rank + 1) order.rank) order.shares 0
          ≤ cond (b && nat_le rank order.rank) order.shares 0) [
            | true ↦ rw short (omega arith)
            | false ↦ omega arith
          ]
          )
    ]

shares_here : (order : Order) → order_shares order.side order.rank order ≡ order.shares
shares_here order =
    ap (λ b. cond (b && nat_le order.rank order.rank) order.shares 0)
    (eq-eqb order.side order.side refl)
    ∙ ap (λ b. cond b order.shares 0) (le-leb order.rank order.rank (omega arith))

shares_above : (order : Order) → order_shares order.side (order.rank + 1) order ≡ 0
shares_above order =
    ap (λ b. cond (b && nat_le (order.rank + 1) order.rank) order.shares 0)
    (eq-eqb order.side order.side refl)
    ∙ ap (λ b. cond b order.shares 0) (lt-leb (order.rank + 1) order.rank (omega arith))

-- an order's shares are among those at its rank
pub depth_has : (table : List (ℕ × Order)) (id : ℕ) (order : Order) (shares : ℕ)
    → live_order table id ≡ Some order → shares ≤ order.shares
    → depth table order.side (order.rank + 1) + shares ≤ depth table order.side order.rank
depth_has table id order shares there few =
    let f = order_shares order.side order.rank in
    let g = order_shares order.side (order.rank + 1) in
    let in_f : unwrap_or (option_map f (live_order table id)) 0 ≡ f order =
    ap (λ o. unwrap_or (option_map f o) 0) there in
    let in_g : unwrap_or (option_map g (live_order table id)) 0 ≡ g order =
    ap (λ o. unwrap_or (option_map g o) 0) there in
    omega (
      arith,
      in_f,
      in_g,
      shares_here order,
      shares_above order,
      sum_by-remove_entry f (nat_eq id) table,
      sum_by-remove_entry g (nat_eq id) table,
      sum_by-le-sum_by g f (values_of (remove_entry (nat_eq id) table))
          (at_least order.side order.rank),
    )
