-- The keys of symbols, put into a set one after another.
use Rattle.std.proofs.Common.{◌≡◌, ℕ, ◌+◌, ◌<◌, ◌≤◌, cond, List, [], ◌∷◌, ◌++◌, true, false, length, map, take, get_or, refl, sym, ap, subst, ◌∙◌}
use Rattle.std.specs.Prelude.{Bool, ◌||◌, nat_eq}
use Rattle.std.proofs.lemmas.Bool.Decides.{Decides-eqb}
use Rattle.std.proofs.lemmas.Grind.{take_at_read}
use Rattle.std.proofs.lemmas.List.{map-append, take_all}
use Rattle.std.proofs.lemmas.List.Folds.{list_any-append}
use Rattle.feed_types.specs.Symbols.{key_of}
use Rattle.run_notes.specs.AbsentSymbols.{AreKeysOf, has_key}

same_test : (r t : Bool) → (r ≡ true → t ≡ true) → (t ≡ true → r ≡ true) → r ≡ t
same_test true t there back = sym (there refl)
same_test false true there back = back refl
same_test false false there back = refl

eq_swap : (a b : ℕ) → nat_eq a b ≡ nat_eq b a
eq_swap a b =
    same_test (nat_eq a b) (nat_eq b a)
    (λ h. (Decides-eqb b a).1 (sym ((Decides-eqb a b).0 h)))
    (λ h. (Decides-eqb a b).1 (sym ((Decides-eqb b a).0 h)))

put_or : (b a : Bool) → cond b true a ≡ (a || (b || false))
put_or true true = refl
put_or true false = refl
put_or false true = refl
put_or false false = refl

-- the keys with that of one symbol more
pub keys_put : (symbols : List (List ℕ)) (i : ℕ) (x : List ℕ) (k : ℕ) (old new : List ℕ)
    → i < length symbols → x ≡ get_or symbols i x → k ≡ key_of x
    → AreKeysOf (take i symbols) old
    → ((key : ℕ) → has_key new key ≡ cond (nat_eq k key) true (has_key old key))
    → AreKeysOf (take (i + 1) symbols) new
keys_put symbols i x k old new less here is keys put key =
    let front = map key_of (take i symbols) in
    let whole : map key_of (take (i + 1) symbols) ≡ front ++ k ∷ [] =
    ap (map key_of) ((take_at_read symbols i x less).1
    ∙ ap (λ (y : List ℕ). take i symbols ++ y ∷ []) (sym here))
    ∙ map-append key_of (take i symbols) (x ∷ [])
    ∙ ap (λ (n : ℕ). front ++ n ∷ []) (sym is) in
    put key
    ∙ ap (λ (b : Bool). cond (nat_eq k key) true b) (keys key)
    ∙ put_or (nat_eq k key) (has_key front key)
    ∙ ap (λ (b : Bool). has_key front key || (b || false)) (eq_swap k key)
    ∙ sym (list_any-append (nat_eq key) front (k ∷ []))
    ∙ ap (λ (ks : List ℕ). has_key ks key) (sym whole)

-- once all are put
pub keys_all : (symbols : List (List ℕ)) (i : ℕ) (keys : List ℕ) → length symbols ≤ i
    → AreKeysOf (take i symbols) keys → AreKeysOf symbols keys
keys_all symbols i keys long are =
    subst (λ (ss : List (List ℕ)). AreKeysOf ss keys) (take_all i symbols long) are
