-- A symbol is found by its key.
use Rattle.std.proofs.Common.{ℕ, zero, suc, ◌<◌, ◌≡◌, ◌+◌, List, [], ◌∷◌, Bool, true, false, not, refl, ap, sym, ◌∙◌, subst, arith, length, map, take, get_or, nat_eq, nat_lt, cond, Some, None}
use Rattle.std.specs.Prelude.{◌||◌, position}
use Rattle.std.specs.List.{AllByRecursion, IsDistinct, list_any, prefix_len}
use Rattle.std.specs.Int.{w64, to_be_bytes}
use Rattle.std.specs.Str.{bytes_eq}
use Rattle.std.specs.Cmp.Lexicographic.{bytes_decides, nat_list_eq_equiv}
use Rattle.std.proofs.lemmas.Bool.{eqb-true, eq-eqb}
use Rattle.std.proofs.lemmas.List.Quantifiers.{position-Some}
use Rattle.feed_types.specs.Symbols.{key_of}
use Rattle.nbbo_book.specs.Books.{is_configured}
use Rattle.nbbo_book.specs.Tables.{HasKey, IsTable}

one_key : (s t : List ℕ) → HasKey s → HasKey t → key_of s ≡ key_of t → s ≡ t
one_key s t h k e = sym h.told ∙ ap (to_be_bytes w64) e ∙ k.told

-- keys are equal exactly where the symbols are
pub key_tells : (s t : List ℕ) → HasKey s → HasKey t → nat_eq (key_of s) (key_of t) ≡ bytes_eq s t
key_tells s t h k =
    let R : Bool → Type 0 = λ b. bytes_eq s t ≡ b → nat_eq (key_of s) (key_of t) ≡ b in
    (elim (bytes_eq s t) as R [
      | true ↦ λ e. ap (λ u. nat_eq (key_of s) (key_of u)) (sym ((bytes_decides s t).0 e))
          ∙ eq-eqb (key_of s) (key_of s) refl
      | false ↦ λ e.
          let Q : Bool → Type 0 = λ b. nat_eq (key_of s) (key_of t) ≡ b → b ≡ false in
          (elim (nat_eq (key_of s) (key_of t)) as Q [
            | true ↦ λ m. (let no : true ≡ false =
                sym ((bytes_decides s t).1 (one_key s t h k (eqb-true (key_of s) (key_of t) m))) ∙ e
                in no)
            | false ↦ λ m. refl
          ]) refl
    ]) refl

long_keys : (ss : List (List ℕ)) → length (map key_of ss) ≡ length ss
long_keys [] = refl
long_keys (s ∷ ss) = ap suc (long_keys ss)

first_key : (s : List ℕ) (ss : List (List ℕ)) → HasKey s → AllByRecursion HasKey ss
    → prefix_len (λ k. not (nat_eq (key_of s) k)) (map key_of ss) ≡ prefix_len
    (λ t. not (bytes_eq s t)) ss
first_key s [] h all = refl
first_key s (t ∷ ss) h all =
    ap (λ b. cond (not b) (1 + prefix_len (λ k. not (nat_eq (key_of s) k)) (map key_of ss)) 0)
    (key_tells s t h all.0)
    ∙ ap (λ n. cond (not (bytes_eq s t)) (1 + n) 0) (first_key s ss h all.1)

-- where its key is, the symbol is
pub found_by_key : (s : List ℕ) (ss : List (List ℕ)) → HasKey s → AllByRecursion HasKey ss
    → position (nat_eq (key_of s)) (map key_of ss) ≡ position (bytes_eq s) ss
found_by_key s ss h all =
    ap (λ n. cond (nat_lt n (length (map key_of ss))) (Some n) None) (first_key s ss h all)
    ∙ ap (λ n. cond (nat_lt (prefix_len (λ t. not (bytes_eq s t)) ss) n)
    (Some (prefix_len (λ t. not (bytes_eq s t)) ss)) None) (long_keys ss)

apart_keys : (s : List ℕ) (ss : List (List ℕ)) → HasKey s → AllByRecursion HasKey ss
    → AllByRecursion (λ k. nat_eq (key_of s) k ≡ false) (map key_of ss)
    → AllByRecursion (λ t. bytes_eq s t ≡ false) ss
apart_keys s [] h all a = tt
apart_keys s (t ∷ ss) h all a = (sym (key_tells s t h all.0) ∙ a.0, apart_keys s ss h all.1 a.1)

pub distinct_symbols : (ss : List (List ℕ)) → AllByRecursion HasKey ss
    → IsDistinct nat_eq (map key_of ss)
    → IsDistinct bytes_eq ss
unfolding IsDistinct
distinct_symbols [] all d = tt
distinct_symbols (s ∷ ss) all d = (apart_keys s ss all.0 all.1 d.0, distinct_symbols ss all.1 d.1)

all_get : (P : List ℕ → Type 0) (xs : List (List ℕ)) (i : ℕ) (d : List ℕ)
    → i < length xs → AllByRecursion P xs
    → P (get_or xs i d)
all_get P [] i d l h = absurd (omega (arith, l))
all_get P (x ∷ xs) zero d l h = h.0
all_get P (x ∷ xs) (suc i) d l h = all_get P xs i d (omega (arith, l)) h.1

-- the symbol at a place is none of those after it, and none of those before
pub apart_at : (ss : List (List ℕ)) (i j : ℕ) (d : List ℕ) → IsDistinct bytes_eq ss
    → i < length ss → j < length ss
    → (i ≡ j → ⊥) → bytes_eq (get_or ss i d) (get_or ss j d) ≡ false
unfolding IsDistinct
apart_at [] i j d h li lj n = absurd (omega (arith, li))
apart_at (s ∷ ss) zero zero d h li lj n = absurd (n refl)
apart_at (s ∷ ss) zero (suc j) d h li lj n = all_get (λ t. bytes_eq s t ≡ false) ss j d
    (omega (arith, lj)) h.0
apart_at (s ∷ ss) (suc i) zero d h li lj n = nat_list_eq_equiv.symm (get_or ss i d) s
    ∙ all_get (λ t. bytes_eq s t ≡ false) ss i d (omega (arith, li)) h.0
apart_at (s ∷ ss) (suc i) (suc j) d h li lj n =
    apart_at ss i j d h.1 (omega (arith, li)) (omega (arith, lj)) (λ e. n (ap suc e))

or_true : (a : Bool) → (a || true) ≡ true
or_true true = refl
or_true false = refl

any_at : (p : List ℕ → Bool) (ss : List (List ℕ)) (i : ℕ) (d : List ℕ) → i < length ss
    → p (get_or ss i d) ≡ true
    → list_any p ss ≡ true
any_at p [] i d l h = absurd (omega (arith, l))
any_at p (s ∷ ss) zero d l h = ap (λ b. b || list_any p ss) h
any_at p (s ∷ ss) (suc i) d l h = ap (λ b. p s || b) (any_at p ss i d (omega (arith, l)) h)
    ∙ or_true (p s)

-- found exactly where it is configured
pub found_configured : (s : List ℕ) (ss : List (List ℕ)) (i : ℕ) → position (bytes_eq s) ss ≡ Some i
    → is_configured ss s ≡ true
found_configured s ss i e =
    let k = position-Some (bytes_eq s) ss i s e in any_at (bytes_eq s) ss i s k.0 k.1

first_within : (p : List ℕ → Bool) (ss : List (List ℕ)) → list_any p ss ≡ true
    → prefix_len (λ t. not (p t)) ss < length ss
first_within p [] h = cc
first_within p (s ∷ ss) h =
    let R : Bool → Type 0 = λ b. (b || list_any p ss) ≡ true
    → cond (not b) (1 + prefix_len (λ t. not (p t)) ss) 0 < suc (length ss) in
    (elim (p s) as R [
      | true ↦ λ e. omega arith
      | false ↦ λ e. (let k = first_within p ss e
          in omega (arith, k))
    ]) h

lt_true : (a b : ℕ) → a < b → nat_lt a b ≡ true
lt_true a b h = grind (arith, h)

first_is : (s : List ℕ) (ss : List (List ℕ)) (i : ℕ) (d : List ℕ)
    → IsDistinct bytes_eq ss → i < length ss
    → bytes_eq s (get_or ss i d) ≡ true → prefix_len (λ t. not (bytes_eq s t)) ss ≡ i
unfolding IsDistinct
first_is s [] i d h l e = absurd (omega (arith, l))
first_is s (t ∷ ts) zero d h l e =
    ap (λ b. cond (not b) (1 + prefix_len (λ x. not (bytes_eq s x)) ts) 0) e
first_is s (t ∷ ts) (suc i) d h l e =
    let other : bytes_eq s t ≡ false =
    ap (λ x. bytes_eq x t) ((bytes_decides s (get_or ts i d)).0 e)
    ∙ apart_at (t ∷ ts) (suc i) zero d h l (omega (arith, l))
    (λ q. (let no : suc i ≡ 0 = q in omega (arith, no))) in
    let one_more : 1 + i ≡ suc i = omega arith in
    ap (λ b. cond (not b) (1 + prefix_len (λ x. not (bytes_eq s x)) ts) 0) other
    ∙ ap (λ n. 1 + n) (first_is s ts i d h.1 (omega (arith, l)) e)
    ∙ one_more

-- a symbol's place is where it is, where each is there once
pub place_is : (s : List ℕ) (ss : List (List ℕ)) (i : ℕ) (d : List ℕ)
    → IsDistinct bytes_eq ss → i < length ss
    → bytes_eq s (get_or ss i d) ≡ true → position (bytes_eq s) ss ≡ Some i
place_is s ss i d h l e =
    ap (λ n. cond (nat_lt n (length ss)) (Some n) None) (first_is s ss i d h l e)
    ∙ ap (λ b. cond b (Some i) None) (lt_true i (length ss) l)

pub missed_configured : (s : List ℕ) (ss : List (List ℕ)) → position (bytes_eq s) ss ≡ None
    → is_configured ss s ≡ false
missed_configured s ss e =
    let R : Bool → Type 0 = λ b. list_any (bytes_eq s) ss ≡ b → b ≡ false in
    (elim (list_any (bytes_eq s) ss) as R [
      | true ↦ λ m.
          let n = prefix_len (λ t. not (bytes_eq s t)) ss in
          let no : Some n ≡ None = ap (λ b. cond b (Some n) None)
          (sym (lt_true n (length ss) (first_within (bytes_eq s) ss m))) ∙ e in cc
      | false ↦ λ m. refl
    ]) refl

none_same : (s : List ℕ) (ss : List (List ℕ)) → list_any (bytes_eq s) ss ≡ false
    → AllByRecursion (λ t. bytes_eq s t ≡ false) ss
none_same s [] e = tt
none_same s (t ∷ ss) e =
    let R : Bool → Type 0 = λ b. (b || list_any (bytes_eq s) ss) ≡ false
    → (b ≡ false) × AllByRecursion (λ t. bytes_eq s t ≡ false) ss in
    (elim (bytes_eq s t) as R [ true ↦ λ m. cc | false ↦ λ m. (refl, none_same s ss m) ]) e

pub missed_all : (s : List ℕ) (ss : List (List ℕ)) → position (bytes_eq s) ss ≡ None
    → AllByRecursion (λ t. bytes_eq s t ≡ false) ss
missed_all s ss e = none_same s ss (missed_configured s ss e)

not_false : (b : Bool) → not b ≡ false → b ≡ true
not_false true h = refl
not_false false h = sym h

any_key : (s : List ℕ) (ss : List (List ℕ)) → HasKey s → AllByRecursion HasKey ss
    → list_any (nat_eq (key_of s)) (map key_of ss) ≡ list_any (bytes_eq s) ss
any_key s [] h all = refl
any_key s (t ∷ ss) h all = ap (λ b. b || list_any (nat_eq (key_of s)) (map key_of ss))
    (key_tells s t h all.0)
    ∙ ap (λ b. bytes_eq s t || b) (any_key s ss h all.1)

never_twice : (xs : List (List ℕ)) (i : ℕ) (d : List ℕ) → i < length xs
    → list_any (bytes_eq (get_or xs i d)) (take i xs) ≡ true → IsDistinct bytes_eq xs → ⊥
unfolding IsDistinct
never_twice [] i d l t h = omega (arith, l)
never_twice (x ∷ xs) zero d l t h = cc
never_twice (x ∷ xs) (suc i) d l t h =
    let m : i < length xs = omega (arith, l) in
    let apart : bytes_eq (get_or xs i d) x ≡ false = nat_list_eq_equiv.symm (get_or xs i d) x
    ∙ all_get (λ y. bytes_eq x y ≡ false) xs i d m h.0 in
    never_twice xs i d m (sym (ap (λ b. b || list_any (bytes_eq (get_or xs i d)) (take i xs)) apart)
    ∙ t) h.1

-- one symbol is there twice, where its key is among those before
pub twice_here : (ss : List (List ℕ)) (i : ℕ) (s : List ℕ) (keys : List ℕ) (added : Bool)
    → i < length ss
    → s ≡ get_or ss i s → HasKey s → AllByRecursion HasKey (take i ss)
    → keys ≡ map key_of (take i ss)
    → added ≡ not (list_any (nat_eq (key_of s)) keys) → added ≡ false → IsDistinct bytes_eq ss → ⊥
twice_here ss i s keys added l at h all now says refused distinct =
    let there : list_any (nat_eq (key_of s)) (map key_of (take i ss)) ≡ true =
    sym (ap (list_any (nat_eq (key_of s))) now)
    ∙ not_false (list_any (nat_eq (key_of s)) keys) (sym says ∙ refused) in
    never_twice ss i s l (sym (ap (λ t. list_any (bytes_eq t) (take i ss)) at)
    ∙ sym (any_key s (take i ss) h all)
    ∙ there) distinct

pub take_whole : (ss : List (List ℕ)) → take (length ss) ss ≡ ss
take_whole [] = refl
take_whole (s ∷ ss) = ap (λ t. s ∷ t) (take_whole ss)

-- no symbol is there twice, as no key is
pub symbols_apart : (ss : List (List ℕ)) (keys : List ℕ) → IsTable ss keys → IsDistinct bytes_eq ss
symbols_apart ss keys h = distinct_symbols ss h.told
    (subst (λ (t : List ℕ). IsDistinct nat_eq t) h.in_order h.distinct)
