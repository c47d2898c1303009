-- The laws of symbols of which no item came, or no change of the national best.
use Rattle.std.proofs.Common.{◌≡◌, ℕ, List, [], ◌∷◌, ◌++◌, true, false, refl, sym, ap, ◌∙◌, map, cond}
use Rattle.std.specs.Prelude.{Bool, ◌&&◌, ◌||◌, not, filter}
use Rattle.std.proofs.lemmas.Bool.{or_left, or_right}
use Rattle.std.specs.List.{AllByRecursion, list_any}
use Rattle.std.proofs.lemmas.Bool.Decides.{Decides-eqb}
use Rattle.std.proofs.lemmas.List.Folds.{list_any-append}
use Rattle.feed_types.specs.Symbols.{key_of}
use Rattle.feed_types.specs.declared.journal.Notice.{Notice}
use Rattle.run_notes.specs.AbsentSymbols.{AreKeysOf, has_key, is_change_of, symbols_with, unchanged_among}

-- what is there before nothing comes, and before one thing and another come
pub stays : (a : Bool) → a ≡ (a && true)
stays true = refl
stays false = refl

pub one_or_other : (a b c : Bool) → ((a && not b) && not c) ≡ (a && not (b || c))
one_or_other true true c = refl
one_or_other true false c = refl
one_or_other false b c = refl

same_filter : {X : Type 0} (p q : X → Bool) (xs : List X) → AllByRecursion (λ x. p x ≡ q x) xs
    → filter p xs ≡ filter q xs
same_filter p q [] each = refl
same_filter {X} p q (x ∷ xs) each =
    ap (λ (b : Bool). cond b (x ∷ filter p xs) (filter p xs)) each.0
    ∙ ap (λ (ys : List X). cond (q x) (x ∷ ys) ys) (same_filter p q xs each.1)

are_had : (keys : List ℕ) (symbols : List (List ℕ))
    → ((key : ℕ) → has_key (map key_of symbols) key ≡ true → has_key keys key ≡ true)
    → AllByRecursion (λ symbol. has_key keys (key_of symbol) ≡ true) symbols
are_had keys [] had = tt
are_had keys (s ∷ symbols) had = (
  had (key_of s) (or_left _ _ ((Decides-eqb (key_of s) (key_of s)).1 refl)),
  are_had keys symbols (λ key h. had key (or_right _ _ h)),
)

left_of : (comes : ℕ → Bool) (start left : List ℕ) (symbols : List (List ℕ))
    → ((key : ℕ) → has_key left key ≡ (has_key start key && not (comes key)))
    → AllByRecursion (λ symbol. has_key start (key_of symbol) ≡ true) symbols
    → AllByRecursion (λ symbol. has_key left (key_of symbol) ≡ not (comes (key_of symbol))) symbols
left_of comes start left [] after had = tt
left_of comes start left (s ∷ symbols) after had = (
  after (key_of s) ∙ ap (λ (b : Bool). b && not (comes (key_of s))) had.0,
  left_of comes start left symbols after had.1,
)

-- The symbols of the keys that are left, of those of all symbols, once the keys of what comes are
-- taken out.
pub absent_are : (comes : ℕ → Bool) (start left : List ℕ) (symbols : List (List ℕ))
    → AreKeysOf symbols start
    → ((key : ℕ) → has_key left key ≡ (has_key start key && not (comes key)))
    → symbols_with left symbols ≡ filter (λ symbol. not (comes (key_of symbol))) symbols
absent_are comes start left symbols keys after =
    same_filter _ _ symbols
    (left_of comes start left symbols after (are_had start symbols (λ key h. keys key ∙ h)))

-- ---- a list of symbols out of which those are taken of which something comes

filter_all : {X : Type 0} (p : X → Bool) (xs : List X) → AllByRecursion (λ x. p x ≡ true) xs
    → filter p xs ≡ xs
filter_all p [] each = refl
filter_all {X} p (x ∷ xs) each =
    ap (λ (b : Bool). cond b (x ∷ filter p xs) (filter p xs)) each.0
    ∙ ap (λ (ys : List X). x ∷ ys) (filter_all p xs each.1)

twice_at : {X : Type 0} (q : X → Bool) (x : X) (b : Bool) (xs ys : List X) → filter q xs ≡ ys
    → filter q (cond b (x ∷ xs) xs) ≡ cond (b && q x) (x ∷ ys) ys
twice_at {X} q x true xs ys rest = ap (λ (zs : List X). cond (q x) (x ∷ zs) zs) rest
twice_at q x false xs ys rest = rest

filter_twice : {X : Type 0} (p q : X → Bool) (xs : List X)
    → filter q (filter p xs) ≡ filter (λ x. p x && q x) xs
filter_twice p q [] = refl
filter_twice p q (x ∷ xs) =
    twice_at q x (p x) (filter p xs) (filter (λ y. p y && q y) xs) (filter_twice p q xs)

filter_alike : {X : Type 0} (p q : X → Bool) → ((x : X) → p x ≡ q x) → (xs : List X)
    → filter p xs ≡ filter q xs
filter_alike p q alike [] = refl
filter_alike {X} p q alike (x ∷ xs) =
    ap (λ (b : Bool). cond b (x ∷ filter p xs) (filter p xs)) (alike x)
    ∙ ap (λ (ys : List X). cond (q x) (x ∷ ys) ys) (filter_alike p q alike xs)

-- All symbols are there at first.
pub all_of : (keys : List ℕ) (symbols : List (List ℕ)) → AreKeysOf symbols keys
    → symbols_with keys symbols ≡ symbols
all_of keys symbols are =
    filter_all (λ symbol. has_key keys (key_of symbol)) symbols
    (are_had keys symbols (λ key h. are key ∙ h))

-- Those are left of which nothing comes.
pub left_after : (comes : ℕ → Bool) (had left : List ℕ) (symbols : List (List ℕ))
    → ((key : ℕ) → has_key left key ≡ (has_key had key && not (comes key)))
    → symbols_with left symbols
    ≡ filter (λ symbol. not (comes (key_of symbol))) (symbols_with had symbols)
left_after comes had left symbols after =
    filter_alike (λ symbol. has_key left (key_of symbol))
    (λ symbol. has_key had (key_of symbol) && not (comes (key_of symbol)))
    (λ symbol. after (key_of symbol)) symbols
    ∙ sym (filter_twice (λ symbol. has_key had (key_of symbol))
    (λ symbol. not (comes (key_of symbol))) symbols)

or_none : (a : Bool) → a ≡ (a || false)
or_none true = refl
or_none false = refl

-- the same of one change
pub left_after_change : (notice : Notice) (had left : List ℕ) (symbols : List (List ℕ))
    → ((key : ℕ) → has_key left key ≡ (has_key had key && not (is_change_of key notice)))
    → symbols_with left symbols ≡ unchanged_among (notice ∷ []) (symbols_with had symbols)
left_after_change notice had left symbols after =
    left_after (λ key. list_any (is_change_of key) (notice ∷ [])) had left symbols
    (λ key. after key
    ∙ ap (λ (b : Bool). has_key had key && not b) (or_none (is_change_of key notice)))

-- Of no notice there is no change.
pub unchanged_by_none : (symbols : List (List ℕ)) → unchanged_among [] symbols ≡ symbols
unchanged_by_none [] = refl
unchanged_by_none (s ∷ symbols) =
    ap (λ (ss : List (List ℕ)). s ∷ ss) (unchanged_by_none symbols)

-- whether no change is among the notices
abbrev none_of : List Notice → List ℕ → Bool
none_of notices symbol = not (list_any (is_change_of (key_of symbol)) notices)

-- What is left of the notices of two lists, one list after the other.
pub unchanged_by_both : (xs ys : List Notice) (symbols : List (List ℕ))
    → unchanged_among ys (unchanged_among xs symbols) ≡ unchanged_among (xs ++ ys) symbols
unchanged_by_both xs ys symbols =
    filter_twice (none_of xs) (none_of ys) symbols
    ∙ filter_alike (λ symbol. none_of xs symbol && none_of ys symbol) (none_of (xs ++ ys))
    (λ symbol.
    one_or_other true (list_any (is_change_of (key_of symbol)) xs)
    (list_any (is_change_of (key_of symbol)) ys)
    ∙ ap not (sym (list_any-append (is_change_of (key_of symbol)) xs ys))) symbols

-- With one notice more.
pub more_unchanged : (front whole : List Notice) (x : Notice) (symbols mid after : List (List ℕ))
    → whole ≡ front ++ x ∷ [] → mid ≡ unchanged_among front symbols
    → after ≡ unchanged_among (x ∷ []) mid → after ≡ unchanged_among whole symbols
more_unchanged front whole x symbols mid after is first second =
    second ∙ ap (λ (ss : List (List ℕ)). unchanged_among (x ∷ []) ss) first
    ∙ unchanged_by_both front (x ∷ []) symbols
    ∙ ap (λ (notices : List Notice). unchanged_among notices symbols) (sym is)
