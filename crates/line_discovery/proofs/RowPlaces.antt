-- Rows that are found by their keys.
use Rattle.std.proofs.Common.{tests, rules, ◌≡◌, ℕ, zero, suc, ◌<◌, cond, List, [], ◌∷◌, true, false, get_or, length, refl, sym, ap, subst, ◌∙◌, arith}
use Rattle.std.specs.Prelude.{Bool, ◌||◌, Some, position, slice_get}
use Rattle.std.specs.List.{list_any}
use Rattle.std.proofs.lemmas.Bool.{or_parts}
use Rattle.std.proofs.lemmas.List.Quantifiers.{position-Some}
use Rattle.line_discovery.specs.contracts.line_key.LineKeyPartialEq.TheImpl as own
use Rattle.line_discovery.specs.declared.line_key.LineKey.{LineKey}
use Rattle.line_discovery.specs.declared.line_row.LineRow.{LineRow}
use Rattle.line_discovery.specs.KeyedRows.{has_row}
use Rattle.line_discovery.specs.Keys.{same_key}
use Rattle.line_discovery.proofs.SameKeys.{tested_key}
use Rattle.line_discovery.specs.Tables.{by_line, keys_of, packets_at}

-- ---- how a key is compared

abbrev pub own_eq : LineKey → LineKey → Bool
own_eq = (own.ghosts).eq

eq_is : (a b : LineKey) → own_eq a b ≡ true → a ≡ b
eq_is a b h = search (tests, rules, h)

eq_same : (a : LineKey) → own_eq a a ≡ true
eq_same a = search (tests, rules)

pub key_eq : (a b : LineKey) → own_eq a b ≡ same_key b a
key_eq a b = tested_key (own_eq a b) b a (λ h. sym (eq_is a b h))
    (λ e. subst (λ (x : LineKey). own_eq a x ≡ true) (sym e) (eq_same a))

-- ---- rows

pub long_keys : (rows : List LineRow) → length (keys_of rows) ≡ length rows
long_keys [] = refl
long_keys (r ∷ rows) = ap suc (long_keys rows)

-- no row has a key that isn't among theirs
pub no_row : (eq : LineKey → LineKey → Bool) → ((a b : LineKey) → eq a b ≡ same_key b a)
    → (key : LineKey) (rows : List LineRow)
    → list_any (eq key) (keys_of rows) ≡ has_row by_line rows key
no_row eq law key [] = refl
no_row eq law key (r ∷ rows) =
    ap (λ (b : Bool). b || list_any (eq key) (keys_of rows)) (law key r.key)
    ∙ ap (λ (b : Bool). same_key r.key key || b) (no_row eq law key rows)

pub no_packets : (key : LineKey) (rows : List LineRow) → has_row by_line rows key ≡ false
    → packets_at rows key ≡ 0
no_packets key [] none = refl
no_packets key (r ∷ rows) none =
    let parts = or_parts (same_key r.key key) (has_row by_line rows key) none in
    ap (λ (b : Bool). cond b r.packets (packets_at rows key)) parts.0
    ∙ no_packets key rows parts.1

key_at : (rows : List LineRow) (i : ℕ) (d : LineRow) → i < length rows
    → get_or (keys_of rows) i d.key ≡ (get_or rows i d).key
key_at [] i d less = absurd (omega (arith, less))
key_at (r ∷ rows) zero d less = refl
key_at (r ∷ rows) (suc i) d less =
    let rest : i < length rows = omega (arith, less) in key_at rows i d rest

row_at : (rows : List LineRow) (i : ℕ) (d : LineRow) → i < length rows
    → slice_get rows i ≡ Some (get_or rows i d)
row_at [] i d less = absurd (omega (arith, less))
row_at (r ∷ rows) zero d less = refl
row_at (r ∷ rows) (suc i) d less =
    let rest : i < length rows = omega (arith, less) in row_at rows i d rest

-- where the first of the keys stands that is this one, the row of this key does
pub row_found : (eq : LineKey → LineKey → Bool) → ((a b : LineKey) → eq a b ≡ same_key b a)
    → (key : LineKey) (rows : List LineRow) (i : ℕ) (d : LineRow)
    → position (eq key) (keys_of rows) ≡ Some i
    → (r : LineRow) × (slice_get rows i ≡ Some r) × (same_key r.key key ≡ true)
row_found eq law key rows i d found =
    let at = position-Some (eq key) (keys_of rows) i d.key found in
    let long = long_keys rows in
    let first = at.0 in
    let less : i < length rows = omega (arith, long, first) in (
      get_or rows i d,
      row_at rows i d less,
      sym (law key (get_or rows i d).key)
          ∙ ap (eq key) (sym (key_at rows i d less)) ∙ at.1,
    )

packets_first : (key : LineKey) (rows : List LineRow) (i : ℕ) (d : LineRow) → i < length rows
    → same_key (get_or rows i d).key key ≡ true
    → ((k : ℕ) → k < i → same_key (get_or rows k d).key key ≡ false)
    → packets_at rows key ≡ (get_or rows i d).packets
packets_first key [] i d less is none = absurd (omega (arith, less))
packets_first key (r ∷ rows) zero d less is none =
    ap (λ (b : Bool). cond b r.packets (packets_at rows key)) is
packets_first key (r ∷ rows) (suc i) d less is none =
    let first : 0 < suc i = omega arith in
    let rest : i < length rows = omega (arith, less) in
    ap (λ (b : Bool). cond b r.packets (packets_at rows key)) (none 0 first)
    ∙ packets_first key rows i d rest is
    (λ k before. let next : suc k < suc i = omega (arith, before) in none (suc k) next)

pub packets_found : (eq : LineKey → LineKey → Bool) → ((a b : LineKey) → eq a b ≡ same_key b a)
    → (key : LineKey) (rows : List LineRow) (i : ℕ) (d : LineRow)
    → position (eq key) (keys_of rows) ≡ Some i → packets_at rows key ≡ (get_or rows i d).packets
packets_found eq law key rows i d found =
    let at = position-Some (eq key) (keys_of rows) i d.key found in
    let long = long_keys rows in
    let first = at.0 in
    let less : i < length rows = omega (arith, long, first) in
    packets_first key rows i d less
    (sym (law key (get_or rows i d).key) ∙ ap (eq key) (sym (key_at rows i d less)) ∙ at.1)
    (λ k before.
    let near : k < length rows = omega (arith, less, before) in
    sym (law key (get_or rows k d).key) ∙ ap (eq key) (sym (key_at rows k d near))
    ∙ at.2 k before)
