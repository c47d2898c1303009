-- Putting a packet's messages into a window, one after the other.
use Rattle.std.proofs.Common.{◌≡◌, ℕ, ◌+◌, ◌-◌, ◌<◌, ◌≤◌, Bool, true, false, cond, Option, Some, None, refl, sym, ap, ◌∙◌, arith, inl, inr}
use Rattle.std.specs.Prelude.{nat_eq, nat_le, nat_lt, ◌&&◌, is_none, IsTrue, ◌↔◌, if◌then◌else◌}
use Rattle.std.specs.List.{range_with_len}
use Rattle.std.proofs.lemmas.Bool.{cases_lt, cases_order, false≢true}
use Rattle.std.proofs.lemmas.Bool.Decides.{nat_tests}
use Rattle.std.proofs.lemmas.List.FromFn.{length-range_with_len}
use Rattle.std.proofs.lemmas.List.Sums.{count_by-le-length}
use Rattle.feed_types.specs.declared.item.Item.{Item}
use Rattle.mold_packet.specs.Content.{Content}
use Rattle.line_arbiter.specs.Packets.{item_at, message_item}
use Rattle.line_arbiter.specs.Holding.{Held, held_at}
use Rattle.line_arbiter.specs.Filling.{fresh_to, put_one, put_to}
use Rattle.line_arbiter.proofs.Counting.{count_more}

same_place : (p : Content) (n m : ℕ) → m ≡ p.number + n → item_at p m ≡ message_item p n
same_place p n m e = ap (message_item p) (let k : m - p.number ≡ n = omega arith in k)

-- three tests, by where m stands
if_and : {X : Type 0} (a b : Bool) (x y : Option X) → a ≡ b
    → (if a then x else y) ≡ (if b then x else y)
if_and a b x y e = ap (λ (t : Bool). if t then x else y) e

no_put : (sent k : ℕ) (item : Item) (found : Option Item) (m : ℕ) → (m ≡ k → ⊥)
    → put_one sent k item found m ≡ found
no_put sent k item None m ne = grind (arith, nat_tests)
no_put sent k item (Some x) m ne = refl

below_place : (n sent : ℕ) (p : Content) (m : ℕ) → m < p.number + n
    → put_one sent (p.number + n) (message_item p n) (put_to n sent p None m)
    m ≡ put_to (n + 1) sent p None m
below_place n sent p m below =
    no_put sent (p.number + n) (message_item p n) (put_to n sent p None m) m (λ e. omega arith)
    ∙ if_and (nat_lt sent m && (nat_le p.number m && nat_lt m (p.number + n))) (nat_lt sent m
    && (nat_le p.number m && nat_lt m (p.number + (n + 1)))) (Some (item_at p m)) None
    (grind (arith, nat_tests))

above_place : (n sent : ℕ) (p : Content) (m : ℕ) → p.number + n < m
    → put_one sent (p.number + n) (message_item p n) (put_to n sent p None m)
    m ≡ put_to (n + 1) sent p None m
above_place n sent p m above =
    no_put sent (p.number + n) (message_item p n) (put_to n sent p None m) m (λ e. omega arith)
    ∙ if_and (nat_lt sent m && (nat_le p.number m && nat_lt m (p.number + n))) (nat_lt sent m
    && (nat_le p.number m && nat_lt m (p.number + (n + 1)))) (Some (item_at p m)) None
    (grind (arith, nat_tests))

at_place : (n sent : ℕ) (p : Content) (m : ℕ) → m ≡ p.number + n
    → put_one sent (p.number + n) (message_item p n) (put_to n sent p None m)
    m ≡ put_to (n + 1) sent p None m
at_place n sent p m same =
    let free : put_to n sent p None m ≡ None = grind (arith, nat_tests) in
    ap (λ (x : Option Item). put_one sent (p.number + n) (message_item p n) x m) free
    ∙ ap (λ (item : Item). put_one sent (p.number + n) item None m) (sym (same_place p n m same))
    ∙ if_and (nat_lt sent (p.number + n) && nat_eq m (p.number + n)) (nat_lt sent m
    && (nat_le p.number m && nat_lt m (p.number + (n + 1)))) (Some (item_at p m)) None
    (grind (arith, nat_tests))

one_put : (n sent : ℕ) (p : Content) (m : ℕ) → put_one sent (p.number + n) (message_item p n)
    (put_to n sent p None m) m ≡ put_to (n + 1) sent p None m
one_put n sent p m =
    elim (cases_order m (p.number + n)) [
      | inl same ↦ at_place n sent p m same
      | inr (inl below) ↦ below_place n sent p m below
      | inr (inr above) ↦ above_place n sent p m above
    ]

pub put_more : (n sent : ℕ) (p : Content) (found : Option Item) (m : ℕ)
    → put_one sent (p.number + n) (message_item p n) (put_to n sent p found m)
    m ≡ put_to (n + 1) sent p found m
put_more n sent p None m = one_put n sent p m
put_more n sent p (Some x) m = refl

count_at : (b : Bool) (k : ℕ) (found : Option Item) (sent : ℕ)
    → (IsTrue b ↔ ((sent < k) × (found ≡ None))) → (nat_lt sent k && is_none found) ≡ b
count_at true k found sent told = let both = told.0 refl in rw both.1 (grind (arith, nat_tests))
count_at false k None sent told = let no : k ≤ sent = elim (cases_lt sent k)
    [ inl lt ↦ absurd (false≢true (told.1 (lt, refl))) | inr le ↦ le ] in grind (arith, nat_tests)
count_at false k (Some x) sent told = grind (arith, nat_tests)

-- one more is counted where the item was put in
pub fresh_more : (b : Bool) (n sent : ℕ) (held : Held) (p : Content)
    → (IsTrue b ↔ ((sent < p.number + n) × (held_at held (p.number + n) ≡ None)))
    → fresh_to (n + 1) sent held p ≡ fresh_to n sent held p + cond b 1 0
fresh_more b n sent held p told =
    count_more (λ m. nat_lt sent m && is_none (held_at held m)) p.number n
    ∙ ap (λ (t : Bool). fresh_to n sent held p + cond t 1 0) (count_at b (p.number + n)
    (held_at held (p.number + n)) sent told)

pub fresh_most : (n sent : ℕ) (held : Held) (p : Content) → fresh_to n sent held p ≤ n
fresh_most n sent held p = omega (
  arith,
  count_by-le-length (λ m. nat_lt sent m
      && is_none (held_at held m)) (range_with_len p.number n),
  length-range_with_len p.number n,
)

-- at its own number nothing was put in before
pub own_place : (n sent : ℕ) (p : Content) (found : Option Item)
    → put_to n sent p found (p.number + n) ≡ found
own_place n sent p None = grind (arith, nat_tests)
own_place n sent p (Some x) = refl

-- the map once the packet's first n messages were put in, and how many of them were new
pub record IsFilled (n sent : ℕ) (held filled : Held) (p : Content) (count : ℕ) : Type 0 where
  pub items : (m : ℕ) → held_at filled m ≡ put_to n sent p (held_at held m) m
  pub count_is : count ≡ fresh_to n sent held p

pub filled_more : {n sent : ℕ} {held filled : Held} {p : Content} {count : ℕ} (b : Bool)
    (next : Held) → IsFilled n sent held filled p count
    → ((m : ℕ) → held_at next m ≡ put_one sent (p.number + n) (message_item p n) (held_at filled m)
    m)
    → (IsTrue b ↔ ((sent < p.number + n) × (held_at filled (p.number + n) ≡ None)))
    → IsFilled (n + 1) sent held next p (count + cond b 1 0)
filled_more {n} {sent} {held} {filled} {p} {count} b next so_far after told =
    let here : held_at filled (p.number + n) ≡ held_at held (p.number + n) =
    so_far.items (p.number + n) ∙ own_place n sent p (held_at held (p.number + n)) in
    let told2 : IsTrue b ↔ ((sent < p.number + n) × (held_at held (p.number + n) ≡ None)) =
    rw here at told in
    record {
      items = λ m. after m ∙ ap (λ (x : Option Item). put_one sent (p.number + n) (message_item p n)
          x m) (so_far.items m) ∙ put_more n sent p (held_at held m) m;
      count_is = ap (λ (x : ℕ). x + cond b 1 0) so_far.count_is
          ∙ sym (fresh_more b n sent held p told2);
    }
