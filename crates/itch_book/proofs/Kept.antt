-- The orders that are kept, with the levels of each side, after an edit.
use Rattle.std.proofs.Common.{◌≡◌, ℕ, ◌+◌, ◌<◌, ◌≤◌, Bool, true, false, cond, List, [], ◌∷◌, length, get_or, set, refl, sym, ap, ◌∙◌, subst, arith, inl, inr, length-set}
use Rattle.std.specs.Prelude.{nat_eq, nat_le, is_some, sum_by, ◌&&◌, Option, Some, None}
use Rattle.std.specs.Map.{remove_entry, values_of}
use Rattle.std.specs.Option.{option_map, unwrap_or}
use Rattle.std.proofs.lemmas.Bool.{eq-eqb, ne_eqb, cases_eq}
use Rattle.std.proofs.lemmas.Option.{none-some, same_Some}
use Rattle.std.proofs.lemmas.List.{get_or-set_same, get_or-set_other}
use Rattle.std.proofs.lemmas.Map.{NonePasses, none_passes_from_lookup}
use Rattle.itch_book.specs.declared.level.Level.{Level}
use Rattle.itch_book.specs.declared.order.Order.{Order}
use Rattle.itch_book.specs.Bests.{IsBestOf, order_shares, depth, whole_lots}
use Rattle.itch_book.specs.Inside.{AreKept, Holds, OrdersState}
use Rattle.itch_book.specs.Levels.{level_depth}
use Rattle.itch_book.specs.Orders.{live_order, without_order}
use Rattle.itch_book.proofs.Holding.{depth_has}

abbrev state_of : List (ℕ × Order) → List (List Level) → OrdersState
state_of table sides = record { table = table; sides = sides }

-- the shares of an order on its own side, and on another
shares_on : (o : Order) (side r : ℕ) → o.side ≡ side
    → order_shares side r o ≡ cond (nat_le r o.rank) o.shares 0
shares_on o side r e =
    ap (λ b. cond (b && nat_le r o.rank) o.shares 0) (eq-eqb o.side side e)

shares_off : (o : Order) (side r : ℕ) → (o.side ≡ side → ⊥) → order_shares side r o ≡ 0
shares_off o side r apart =
    ap (λ b. cond (b && nat_le r o.rank) o.shares 0) (ne_eqb o.side side apart)

-- the levels of one side are others
kept_set : (table new : List (ℕ × Order)) (sides : List (List Level)) (at : ℕ) (levels : List Level)
    → AreKept (state_of table sides) → at < length sides
    → ((id : ℕ) (o : Order) → live_order new id ≡ Some o → o.side < length sides)
    → ((r : ℕ) → level_depth levels r ≡ depth new at r)
    → ((side r : ℕ) → (at ≡ side → ⊥) → depth new side r ≡ depth table side r)
    → AreKept (state_of new (set sides at levels))
kept_set table new sides at levels kept h within own others = record {
  within = λ id o there. rw (length-set sides at levels) (within id o there);
  levels = λ side d r l. (
      let inside : side < length sides = rw (length-set sides at levels) at l in
      elim (cases_eq side at) [
        | inl e ↦ ap (λ (n : ℕ). level_depth (get_or (set sides at levels) n d) r) e
            ∙ ap (λ (ls : List Level). level_depth ls r) (get_or-set_same sides at levels d h)
            ∙ own r ∙ ap (λ (n : ℕ). depth new n r) (sym e)
        | inr ne ↦ ap (λ (ls : List Level). level_depth ls r)
            (get_or-set_other sides at side levels d ne)
            ∙ kept.levels side d r inside ∙ sym (others side r (λ e. ne (sym e)))
      ]
      );
}

-- the levels of an order's side have its shares
pub kept_take : (table : List (ℕ × Order)) (sides : List (List Level)) (id : ℕ) (o : Order)
    (levels : List Level) (shares : ℕ) → AreKept (state_of table sides)
    → live_order table id ≡ Some o
    → levels ≡ get_or sides o.side levels → shares ≤ o.shares
    → level_depth levels (o.rank + 1) + shares ≤ level_depth levels o.rank
kept_take table sides id o levels shares kept there read few =
    let inside = kept.within id o there in
    omega (
      arith,
      ap (λ (ls : List Level). level_depth ls (o.rank + 1)) read,
      ap (λ (ls : List Level). level_depth ls o.rank) read,
      kept.levels o.side levels (o.rank + 1) inside,
      kept.levels o.side levels o.rank inside,
      depth_has table id o shares there few,
    )

-- what a table has that another had, without one of a number
was_there : (id q : ℕ) (o : Order) (found : Option Order) → cond (nat_eq id q) None found ≡ Some o
    → found ≡ Some o
was_there id q o found h =
    (elim (nat_eq id q) as (λ b. cond b None found ≡ Some o → found ≡ Some o) [
      | true ↦ λ e. absurd (none-some o e)
      | false ↦ λ e. e
    ]) h

-- an order is gone
pub kept_removed : (table new : List (ℕ × Order)) (sides : List (List Level)) (id : ℕ) (o : Order)
    (levels left : List Level) → AreKept (state_of table sides) → live_order table id ≡ Some o
    → levels ≡ get_or sides o.side levels
    → ((other : ℕ) → live_order new other ≡ cond (nat_eq id other) None (live_order table other))
    → ((f : Order → ℕ) → sum_by f (values_of new) + unwrap_or (option_map f (live_order table id)) 0
    ≡ sum_by f (values_of table))
    → ((r : ℕ) → level_depth left r + cond (nat_le r o.rank) o.shares 0 ≡ level_depth levels r)
    → AreKept (state_of new (set sides o.side left))
kept_removed table new sides id o levels left kept there read each sums taken =
    let inside = kept.within id o there in
    let gone : (f : Order → ℕ) → sum_by f (values_of new) + f o ≡ sum_by f (values_of table) =
    λ f. ap (λ x. sum_by f (values_of new) + unwrap_or (option_map f x) 0) (sym there) ∙ sums f in
    kept_set table new sides o.side left kept inside
    (λ q x found. kept.within q x (was_there id q x (live_order table q) (sym (each q) ∙ found)))
    (λ r. omega (
      arith,
      taken r,
      gone (order_shares o.side r),
      shares_on o o.side r refl,
      ap (λ (ls : List Level). level_depth ls r) read,
      kept.levels o.side levels r inside,
    ))
    (λ side r apart. omega (
      arith,
      gone (order_shares side r),
      shares_off o side r apart,
    ))

cond_add : (b : Bool) (m n : ℕ) → cond b (m + n) 0 ≡ cond b m 0 + cond b n 0
cond_add true m n = refl
cond_add false m n = refl

-- one of another number, or the one that was put in
one_of : (id q : ℕ) (new o : Order) (found : Option Order) (P : Order → Type 0)
    → cond (nat_eq id q) (Some new) found ≡ Some o → P new → (found ≡ Some o → P o) → P o
one_of id q new o found P h here there =
    (elim (nat_eq id q) as (λ b. cond b (Some new) found ≡ Some o → P o) [
      | true ↦ λ e. subst P (same_Some new o e) here
      | false ↦ there
    ]) h

-- an order has fewer shares
pub kept_reduced : (table new : List (ℕ × Order)) (sides : List (List Level)) (id : ℕ)
    (o less : Order) (levels left : List Level) (shares : ℕ)
    → AreKept (state_of table sides) → live_order table id ≡ Some o
    → levels ≡ get_or sides o.side levels
    → less.side ≡ o.side → less.rank ≡ o.rank → less.shares + shares ≡ o.shares
    → ((other : ℕ) → live_order new other ≡ cond (nat_eq id other) (Some less)
    (live_order table other))
    → ((f : Order → ℕ) → sum_by f (values_of new) + unwrap_or (option_map f (live_order table id)) 0
    ≡ sum_by f (values_of table) + f less)
    → ((r : ℕ) → level_depth left r + cond (nat_le r o.rank) shares 0 ≡ level_depth levels r)
    → AreKept (state_of new (set sides o.side left))
kept_reduced table new sides id o less levels left shares kept there read side_is rank_is are
    each sums
    taken =
    let inside = kept.within id o there in
    let gone : (f : Order → ℕ) → sum_by f (values_of new) + f o ≡ sum_by f
    (values_of table) + f less =
    λ f. ap (λ x. sum_by f (values_of new) + unwrap_or (option_map f x) 0) (sym there) ∙ sums f in
    kept_set table new sides o.side left kept inside
    (λ q x found. one_of id q less x (live_order table q) (λ y. y.side < length sides)
    (sym (each q) ∙ found) (omega (arith, inside, side_is)) (kept.within q x))
    (λ r. omega (
      arith,
      taken r,
      gone (order_shares o.side r),
      shares_on o o.side r refl,
      shares_on less o.side r side_is,
      ap (λ n. cond (nat_le r n) less.shares 0) rank_is,
      ap (λ n. cond (nat_le r o.rank) n 0) are,
      cond_add (nat_le r o.rank) less.shares shares,
      ap (λ (ls : List Level). level_depth ls r) read,
      kept.levels o.side levels r inside,
    ))
    (λ side r apart. omega (
      arith,
      gone (order_shares side r),
      shares_off o side r apart,
      shares_off less side r (λ e. apart (sym side_is ∙ e)),
    ))

-- there is one more order
pub kept_put : (table new : List (ℕ × Order)) (sides : List (List Level)) (id : ℕ) (o : Order)
    (levels more : List Level) → AreKept (state_of table sides) → o.side < length sides
    → levels ≡ get_or sides o.side levels
    → ((other : ℕ) → live_order new other ≡ cond (nat_eq id other) (Some o)
    (live_order table other))
    → ((f : Order → ℕ) → sum_by f (values_of new) ≡ sum_by f (values_of table) + f o)
    → ((r : ℕ) → level_depth more r ≡ level_depth levels r + cond (nat_le r o.rank) o.shares 0)
    → AreKept (state_of new (set sides o.side more))
kept_put table new sides id o levels more kept inside read each sums added =
    kept_set table new sides o.side more kept inside
    (λ q x found. one_of id q o x (live_order table q) (λ y. y.side < length sides)
    (sym (each q) ∙ found) inside (kept.within q x))
    (λ r. omega (
      arith,
      added r,
      sums (order_shares o.side r),
      shares_on o o.side r refl,
      ap (λ (ls : List Level). level_depth ls r) read,
      kept.levels o.side levels r inside,
    ))
    (λ side r apart. omega (
      arith,
      sums (order_shares side r),
      shares_off o side r apart,
    ))

-- and where it couldn't be, none after all
pub kept_undone : (table : List (ℕ × Order)) (sides : List (List Level)) (at : ℕ)
    (levels back : List Level) → AreKept (state_of table sides) → at < length sides
    → levels ≡ get_or sides at levels → ((r : ℕ) → level_depth back r ≡ level_depth levels r)
    → AreKept (state_of table (set sides at back))
kept_undone table sides at levels back kept inside read same =
    kept_set table table sides at back kept inside kept.within
    (λ r. same r ∙ ap (λ (ls : List Level). level_depth ls r) read ∙ kept.levels at levels r inside)
    (λ side r apart. refl)

-- ---- what is said of the orders

remove_none : (test : ℕ → Bool) (es : List (ℕ × Order)) → NonePasses test es
    → remove_entry test es ≡ es
remove_none test [] none = refl
remove_none test (e ∷ es) none =
    ap (λ b. cond b es (e ∷ remove_entry test es)) none.0
    ∙ ap (λ (xs : List (ℕ × Order)). e ∷ xs) (remove_none test es none.1)

-- where there is none of the number nothing changes
pub without_none : (table orders : List (ℕ × Order)) (id : ℕ) → Holds table orders
    → live_order table id ≡ None → without_order id orders ≡ orders
without_none table orders id h none =
    remove_none (nat_eq id) orders
    (none_passes_from_lookup (nat_eq id) orders (sym (h.each id) ∙ none))

-- the same best by equal depths
pub best_same : (lot : ℕ) (f g : ℕ → ℕ) (o : Option Level) → ((r : ℕ) → f r ≡ g r)
    → IsBestOf lot f o → IsBestOf lot g o
best_same lot f g None same best = λ r. subst (λ n. n < lot) (same r) (best r)
best_same lot f g (Some level) same best = record {
  reaches = subst (λ n. lot ≤ n) (same level.rank) best.reaches;
  best = λ r past. subst (λ n. n < lot) (same r) (best.best r past);
  shares = best.shares ∙ ap (whole_lots lot) (same level.rank);
}

pub kept_best : (table orders : List (ℕ × Order)) (sides : List (List Level)) (side lot : ℕ)
    (levels : List Level) (o : Option Level) → AreKept (state_of table sides)
    → side < length sides → levels ≡ get_or sides side levels → Holds table orders
    → IsBestOf lot (level_depth levels) o → IsBestOf lot (depth orders side) o
kept_best table orders sides side lot levels o kept inside read h best =
    best_same lot (level_depth levels) (depth orders side) o
    (λ r. ap (λ (ls : List Level). level_depth ls r) read ∙ kept.levels side levels r inside
    ∙ h.sums (order_shares side r)) best

pub none_from : (o : Option Order) → is_some o ≡ false → o ≡ None
none_from None e = refl
none_from (Some order) e = cc

-- ---- other sides than an order's

pub others_removed : (table new : List (ℕ × Order)) (id : ℕ) (o : Order)
    → live_order table id ≡ Some o
    → ((f : Order → ℕ) → sum_by f (values_of new) + unwrap_or (option_map f (live_order table id)) 0
    ≡ sum_by f (values_of table))
    → (side r : ℕ) → (o.side ≡ side → ⊥) → depth new side r ≡ depth table side r
others_removed table new id o there sums side r apart =
    let f = order_shares side r in
    let gone : unwrap_or (option_map f (live_order table id)) 0 ≡ f o =
    ap (λ x. unwrap_or (option_map f x) 0) there in
    omega (arith, gone, sums f, shares_off o side r apart)

pub others_set : (table new : List (ℕ × Order)) (id : ℕ) (o less : Order)
    → live_order table id ≡ Some o → less.side ≡ o.side
    → ((f : Order → ℕ) → sum_by f (values_of new) + unwrap_or (option_map f (live_order table id)) 0
    ≡ sum_by f (values_of table) + f less)
    → (side r : ℕ) → (o.side ≡ side → ⊥) → depth new side r ≡ depth table side r
others_set table new id o less there same sums side r apart =
    let f = order_shares side r in
    let gone : unwrap_or (option_map f (live_order table id)) 0 ≡ f o =
    ap (λ x. unwrap_or (option_map f x) 0) there in
    omega (
      arith,
      gone,
      sums f,
      shares_off o side r apart,
      shares_off less side r (λ e. apart (sym same ∙ e)),
    )

pub others_put : (table new : List (ℕ × Order)) (o : Order)
    → ((f : Order → ℕ) → sum_by f (values_of new) ≡ sum_by f (values_of table) + f o)
    → (side r : ℕ) → (o.side ≡ side → ⊥) → depth new side r ≡ depth table side r
others_put table new o sums side r apart =
    omega (arith, sums (order_shares side r), shares_off o side r apart)
