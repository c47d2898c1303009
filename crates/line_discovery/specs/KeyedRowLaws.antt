-- The law of rows by keys: one thing more makes the row of its key grow.
use Rattle.std.proofs.Common.{◌≡◌, ℕ, ◌+◌, ◌<◌, cond, List, [], ◌∷◌, ◌++◌, true, false, length, map, set, refl, sym, ap, subst, ◌∙◌, append-nil, arith, length-append}
use Rattle.std.specs.Prelude.{Bool, ◌||◌, Some, nat_le, slice_get, zero, suc}
use Rattle.std.specs.List.{filter, fold, list_any}
use Rattle.std.proofs.lemmas.Bool.{both_ways, false_from_ne_true, leb-false, leb-true, or_left, or_parts, or_right}
use Rattle.std.proofs.lemmas.List.{length-map, map-append}
use Rattle.std.proofs.lemmas.List.Folds.{list_any-append}
use Rattle.std.proofs.lemmas.List.Sums.{fold-append}
use Rattle.std.proofs.lemmas.List.Elements.{filter-append}
use Rattle.line_discovery.specs.KeyedRows.{Keying, AreApart, IsKeyedTable, first_keys, grown_by, has_row, keyed_rows, row_with_key, rows_grown, seen_of, with_key}

-- The keys that are the same are equal, a row has its key, and grows as what it is over.
pub record IsKeying {S K R : Type 0} (by : Keying S K R) (grow : S → R → R) : Type 0 where
  pub is_key : (a b : K) → by.same a b ≡ true → a ≡ b
  pub same_key : (a : K) → by.same a a ≡ true
  pub in_row : (key : K) (mine : List S) → by.key_in (by.over key mine) ≡ key
  pub kept : (s : S) (r : R) → by.key_in (grow s r) ≡ by.key_in r
  pub one_more : (key : K) (mine : List S) (s : S)
      → by.over key (mine ++ s ∷ []) ≡ grow s (by.over key mine)

module _ {S K R : Type 0} (by : Keying S K R) (grow : S → R → R) (law : IsKeying by grow) where
  abbrev grown : S → R → R
  grown = grown_by by grow

  -- ---- one row

  row_step : (key : K) (mine : List S) (s : S) (b : Bool)
      → by.over key (mine ++ cond b (s ∷ []) [])
      ≡ cond b (grow s (by.over key mine)) (by.over key mine)
  row_step key mine s true = law.one_more key mine s
  row_step key mine s false = ap (by.over key) (append-nil mine)

  row_more : (seen : List S) (s : S) (key : K)
      → row_with_key by (seen ++ s ∷ []) key ≡ grown s (row_with_key by seen key)
  row_more seen s key =
      let mine = seen_of by key seen in
      ap (by.over key) (filter-append (λ (x : S). by.same key (by.key_of x)) seen (s ∷ []))
      ∙ row_step key mine s (by.same key (by.key_of s))
      ∙ ap (λ (k : K). cond (by.same k (by.key_of s)) (grow s (by.over key mine))
      (by.over key mine)) (sym (law.in_row key mine))

  kept_key : (r : R) (s : S) (b : Bool) → by.key_in (cond b (grow s r) r) ≡ by.key_in r
  kept_key r s true = law.kept s r
  kept_key r s false = refl

  grown_key : (s : S) (r : R) → by.key_in (grown s r) ≡ by.key_in r
  grown_key s r = kept_key r s (by.same (by.key_in r) (by.key_of s))

  -- ---- all rows

  rows_grow : (seen : List S) (s : S) (keys : List K)
      → map (row_with_key by (seen ++ s ∷ [])) keys
      ≡ map (grown s) (map (row_with_key by seen) keys)
  rows_grow seen s [] = refl
  rows_grow seen s (k ∷ keys) =
      ap (λ (r : R). r ∷ map (row_with_key by (seen ++ s ∷ [])) keys) (row_more seen s k)
      ∙ ap (λ (rs : List R). grown s (row_with_key by seen k) ∷ rs) (rows_grow seen s keys)

  has_key : (seen : List S) (key : K) (keys : List K)
      → has_row by (map (row_with_key by seen) keys) key ≡ list_any (λ k. by.same k key) keys
  has_key seen key [] = refl
  has_key seen key (k ∷ keys) =
      ap (λ (n : K). by.same n key || has_row by (map (row_with_key by seen) keys) key)
      (law.in_row k (seen_of by k seen))
      ∙ ap (λ (b : Bool). by.same k key || b) (has_key seen key keys)

  has_grown : (s : S) (key : K) (rows : List R)
      → has_row by (map (grown s) rows) key ≡ has_row by rows key
  has_grown s key [] = refl
  has_grown s key (r ∷ rows) =
      ap (λ (k : K). by.same k key || has_row by (map (grown s) rows) key) (grown_key s r)
      ∙ ap (λ (b : Bool). by.same (by.key_in r) key || b) (has_grown s key rows)

  -- ---- no key has two rows

  other_way : (a b : K) → by.same a b ≡ false → by.same b a ≡ false
  other_way a b none = false_from_ne_true (by.same b a) (λ h. both_ways (by.same a b) none
      (subst (λ (k : K). by.same k b ≡ true) (law.is_key b a h) (law.same_key b)))

  apart_grown : (s : S) (rows : List R) → AreApart by rows → AreApart by (map (grown s) rows)
  apart_grown s [] h = tt
  apart_grown s (r ∷ rows) h = (
    ap (λ (k : K). has_row by (map (grown s) rows) k) (grown_key s r)
        ∙ has_grown s (by.key_in r) rows ∙ h.0,
    apart_grown s rows h.1,
  )

  apart_more : (rows : List R) (r : R) → AreApart by rows → has_row by rows (by.key_in r) ≡ false
      → AreApart by (rows ++ r ∷ [])
  apart_more [] r h none = (refl, tt)
  apart_more (x ∷ rows) r h none =
      let key = by.key_in x in
      let has : R → Bool = λ y. by.same (by.key_in y) key in
      let parts = or_parts (by.same key (by.key_in r)) (has_row by rows (by.key_in r)) none in (
        list_any-append has rows (r ∷ [])
            ∙ ap (λ (b : Bool). b || list_any has (r ∷ [])) h.0
            ∙ ap (λ (b : Bool). b || false) (other_way key (by.key_in r) parts.0),
        apart_more rows r h.1 parts.1,
      )

  -- ---- the row that grows

  pub none_grows : (s : S) (rows : List R) → has_row by rows (by.key_of s) ≡ false
      → map (grown s) rows ≡ rows
  none_grows s [] h = refl
  none_grows s (r ∷ rows) h =
      let parts =
      or_parts (by.same (by.key_in r) (by.key_of s)) (has_row by rows (by.key_of s)) h in
      ap (λ (b : Bool). cond b (grow s r) r ∷ map (grown s) rows) parts.0
      ∙ ap (λ (rs : List R). r ∷ rs) (none_grows s rows parts.1)

  pub has_at : (key : K) (rows : List R) (i : ℕ) (r : R) → slice_get rows i ≡ Some r
      → by.same (by.key_in r) key ≡ true → has_row by rows key ≡ true
  has_at key [] i r e h = absurd cc
  has_at key (x ∷ rows) zero r e h =
      let same : x ≡ r = cc in
      or_left (by.same (by.key_in x) key) (has_row by rows key)
      (ap (λ (y : R). by.same (by.key_in y) key) same ∙ h)
  has_at key (x ∷ rows) (suc i) r e h =
      or_right (by.same (by.key_in x) key) (has_row by rows key) (has_at key rows i r e h)

  -- where it stands
  pub grows_at : (s : S) (rows : List R) (i : ℕ) (r : R) → AreApart by rows
      → slice_get rows i ≡ Some r → by.same (by.key_in r) (by.key_of s) ≡ true
      → set rows i (grow s r) ≡ map (grown s) rows
  grows_at s [] i r apart e h = absurd cc
  grows_at s (x ∷ rows) zero r apart e h =
      let same : x ≡ r = cc in
      let mine : by.same (by.key_in x) (by.key_of s) ≡ true =
      ap (λ (y : R). by.same (by.key_in y) (by.key_of s)) same ∙ h in
      let others : has_row by rows (by.key_of s) ≡ false =
      subst (λ (k : K). has_row by rows k ≡ false) (law.is_key (by.key_in x) (by.key_of s) mine)
      apart.0 in
      ap (λ (y : R). grow s y ∷ rows) (sym same)
      ∙ ap (λ (b : Bool). cond b (grow s x) x ∷ rows) (sym mine)
      ∙ ap (λ (rs : List R). grown s x ∷ rs) (sym (none_grows s rows others))
  grows_at s (x ∷ rows) (suc i) r apart e h =
      let key = by.key_of s in
      let other : by.same (by.key_in x) key ≡ false =
      false_from_ne_true (by.same (by.key_in x) key) (λ mine. both_ways (has_row by rows key)
      (subst (λ (k : K). has_row by rows k ≡ false) (law.is_key (by.key_in x) key mine) apart.0)
      (has_at key rows i r e h)) in
      ap (λ (rs : List R). x ∷ rs) (grows_at s rows i r apart.1 e h)
      ∙ ap (λ (b : Bool). cond b (grow s x) x ∷ map (grown s) rows) (sym other)

  keys_more : (seen : List S) (s : S)
      → first_keys by (seen ++ s ∷ []) ≡ with_key by (first_keys by seen) (by.key_of s)
  keys_more seen s =
      ap (fold (with_key by) []) (map-append by.key_of seen (s ∷ []))
      ∙ fold-append (with_key by) [] (map by.key_of seen) (by.key_of s ∷ [])

  -- the rows after one more, where it is known whether there is a new one
  rows_by : (seen : List S) (s : S) (rows : List R) (b : Bool)
      → rows ≡ keyed_rows by seen
      → (has_row by rows (by.key_of s) || nat_le by.most (length rows)) ≡ b
      → keyed_rows by (seen ++ s ∷ []) ≡ map (row_with_key by (seen ++ s ∷ []))
      (cond b (first_keys by seen) (first_keys by seen ++ by.key_of s ∷ []))
  rows_by seen s rows b are test =
      let key = by.key_of s in
      let keys = first_keys by seen in
      let more = seen ++ s ∷ [] in
      let found : has_row by rows key ≡ list_any (λ k. by.same k key) keys =
      ap (λ (rs : List R). has_row by rs key) are ∙ has_key seen key keys in
      let long : nat_le by.most (length rows) ≡ nat_le by.most (length keys) =
      ap (λ (rs : List R). nat_le by.most (length rs)) are
      ∙ ap (nat_le by.most) (length-map keys (row_with_key by seen)) in
      let same : (list_any (λ k. by.same k key) keys || nat_le by.most (length keys)) ≡ b =
      ap (λ (x : Bool). x || nat_le by.most (length keys)) (sym found)
      ∙ ap (λ (x : Bool). has_row by rows key || x) (sym long) ∙ test in
      ap (map (row_with_key by more)) (keys_more seen s
      ∙ ap (λ (x : Bool). cond x keys (keys ++ key ∷ [])) same)

  -- ---- the table

  seen_more : (key : K) (seen : List S) (s : S)
      → seen_of by key seen ≡ [] → by.same key (by.key_of s) ≡ false
      → seen_of by key (seen ++ s ∷ []) ≡ []
  seen_more key seen s none other =
      let mine = λ (x : S). by.same key (by.key_of x) in
      filter-append mine seen (s ∷ [])
      ∙ ap (λ (l : List S). l ++ filter mine (s ∷ [])) none
      ∙ ap (λ (b : Bool). cond b (s ∷ []) []) other

  clash : (b : Bool) → b ≡ true → b ≡ false → ⊥
  clash b h k = both_ways b k h

  -- no row is new
  same_rows : (rows : List R) (seen : List S) (s : S)
      → (has_row by rows (by.key_of s) || nat_le by.most (length rows)) ≡ true
      → (length rows < by.most → has_row by rows (by.key_of s) ≡ true)
      → IsKeyedTable by rows seen → IsKeyedTable by (map (grown s) rows) (seen ++ s ∷ [])
  same_rows rows seen s test there is =
      let long : length (map (grown s) rows) ≡ length rows = length-map rows (grown s) in
      let few = is.few in
      record {
        rows_are = ap (map (grown s)) is.rows_are ∙ sym (rows_grow seen s (first_keys by seen))
            ∙ sym (rows_by seen s rows true is.rows_are test);
        few = omega (arith, long, few);
        apart = apart_grown s rows is.apart;
        complete = λ small key none.
            let less : length rows < by.most = omega (arith, long, small) in
            let gone : has_row by rows key ≡ false = sym (has_grown s key rows) ∙ none in
            seen_more key seen s (is.complete less key gone)
            (false_from_ne_true (by.same key (by.key_of s)) (λ h. clash (has_row by rows key)
            (subst (λ (k : K). has_row by rows k ≡ true) (sym (law.is_key key (by.key_of s) h))
            (there less)) gone));
      }

  -- one is
  new_row : (rows : List R) (seen : List S) (s : S)
      → has_row by rows (by.key_of s) ≡ false → length rows < by.most
      → (has_row by rows (by.key_of s) || nat_le by.most (length rows)) ≡ false
      → IsKeyedTable by rows seen
      → IsKeyedTable by (map (grown s) rows ++ grow s (by.over (by.key_of s) []) ∷ [])
      (seen ++ s ∷ [])
  new_row rows seen s none small test is =
      let own = by.key_of s in
      let more = seen ++ s ∷ [] in
      let keys = first_keys by seen in
      let first = grow s (by.over own []) in
      let long : length (map (grown s) rows) ≡ length rows = length-map rows (grown s) in
      let longer : length (map (grown s) rows ++ first ∷ []) ≡ length (map (grown s) rows) + 1 =
      length-append (map (grown s) rows) (first ∷ []) in
      let mine : by.same (by.key_in (by.over own [])) own ≡ true =
      subst (λ (k : K). by.same k own ≡ true) (sym (law.in_row own [])) (law.same_key own) in
      let fresh : row_with_key by more own ≡ first = row_more seen s own
      ∙ ap (λ (l : List S). grown s (by.over own l)) (is.complete small own none)
      ∙ ap (λ (b : Bool). cond b first (by.over own [])) mine in
      let fresh_key : has_row by (map (grown s) rows) (by.key_in first) ≡ false =
      ap (λ (k : K). has_row by (map (grown s) rows) k)
      (law.kept s (by.over own []) ∙ law.in_row own [])
      ∙ has_grown s own rows ∙ none in
      record {
        rows_are = ap (λ (rs : List R). map (grown s) rs ++ first ∷ []) is.rows_are
            ∙ ap (λ (rs : List R). rs ++ first ∷ []) (sym (rows_grow seen s keys))
            ∙ ap (λ (r : R). map (row_with_key by more) keys ++ r ∷ []) (sym fresh)
            ∙ sym (map-append (row_with_key by more) keys (own ∷ []))
            ∙ sym (rows_by seen s rows false is.rows_are test);
        few = omega (arith, long, longer, small);
        apart = apart_more (map (grown s) rows) first (apart_grown s rows is.apart) fresh_key;
        complete = λ less key gone.
            let parts = or_parts (has_row by (map (grown s) rows) key)
            (has_row by (first ∷ []) key)
            (sym (list_any-append (λ (r : R). by.same (by.key_in r) key) (map (grown s) rows)
            (first ∷ [])) ∙ gone) in
            let apart : by.same own key ≡ false =
            ap (λ (k : K). by.same k key) (sym (law.kept s (by.over own []) ∙ law.in_row own []))
            ∙ (or_parts (by.same (by.key_in first) key) false parts.1).0 in
            seen_more key seen s
            (is.complete small key (sym (has_grown s key rows) ∙ parts.0))
            (false_from_ne_true (by.same key own) (λ h. clash (by.same own key)
            (subst (λ (k : K). by.same own k ≡ true) (sym (law.is_key key own h))
            (law.same_key own)) apart));
      }

  by_tests : (rows : List R) (seen : List S) (s : S) (f g : Bool)
      → has_row by rows (by.key_of s) ≡ f → nat_le by.most (length rows) ≡ g
      → IsKeyedTable by rows seen
      → IsKeyedTable by (cond (f || g) (map (grown s) rows)
      (map (grown s) rows ++ grow s (by.over (by.key_of s) []) ∷ [])) (seen ++ s ∷ [])
  by_tests rows seen s true g found long is =
      same_rows rows seen s (or_left _ _ found) (λ less. found) is
  by_tests rows seen s false true found long is =
      same_rows rows seen s (or_right _ _ long)
      (λ less. let most = leb-true by.most (length rows) long in absurd (omega (arith, most, less)))
      is
  by_tests rows seen s false false found long is =
      new_row rows seen s found (leb-false by.most (length rows) long)
      (ap (λ (b : Bool). b || nat_le by.most (length rows)) found ∙ long) is

  pub table_more : (rows : List R) (seen : List S) (s : S) → IsKeyedTable by rows seen
      → IsKeyedTable by (rows_grown by grow rows s) (seen ++ s ∷ [])
  table_more rows seen s is =
      by_tests rows seen s (has_row by rows (by.key_of s)) (nat_le by.most (length rows)) refl refl
      is
