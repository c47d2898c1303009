-- A symbol's field, whose bytes are tested for a comma or a quotation mark.
use Rattle.std.proofs.Common.{◌≡◌, ℕ, Bool, true, false, ◌&&◌, ◌||◌, not, List, [], ◌∷◌, ◌++◌, length, take, drop, get_or, refl, ap, ap₂, sym, ◌∙◌, arith}
use Rattle.std.specs.Prelude.{◌==◌}
use Rattle.std.specs.List.{list_all, prefix_len}
use Rattle.std.proofs.lemmas.Bool.{and_parts, eqb-true}
use Rattle.std.proofs.lemmas.Bool.Decides.{nat_tests}
use Rattle.std.proofs.lemmas.Grind.{common_steps}
use Rattle.std.proofs.lemmas.List.{take-append-drop}
use Rattle.std.proofs.lemmas.List.Folds.{list_any-append}
use Rattle.feed_types.specs.Symbols.{is_space, is_symbol_name, is_symbol_field, name_of, filling_of}
use Rattle.best_rows.specs.Quoting.{needs_quotes}

abbrev is_mark : ℕ → Bool
is_mark b = b == 44 || b == 34

or_false : (b : Bool) → (b || false) ≡ b
or_false true = refl
or_false false = refl

-- ---- eight bytes

eight : (a b c d e f g h : Bool) → (((((((a || b) || c) || d) || e) || f) || g) || h)
    ≡ (a || (b || (c || (d || (e || (f || (g || (h || false))))))))
eight true b c d e f g h = refl
eight false true c d e f g h = refl
eight false false true d e f g h = refl
eight false false false true e f g h = refl
eight false false false false true f g h = refl
eight false false false false false true g h = refl
eight false false false false false false true h = refl
eight false false false false false false false h = sym (or_false h)

by_byte : (xs : List ℕ) → length xs ≡ 8
    → (((((((is_mark (get_or xs 0 0) || is_mark (get_or xs 1 0)) || is_mark (get_or xs 2 0))
    || is_mark (get_or xs 3 0)) || is_mark (get_or xs 4 0)) || is_mark (get_or xs 5 0))
    || is_mark (get_or xs 6 0)) || is_mark (get_or xs 7 0)) ≡ needs_quotes xs
by_byte (s ∷ t ∷ u ∷ v ∷ w ∷ x ∷ y ∷ z ∷ []) n = eight (is_mark s) (is_mark t) (is_mark u)
    (is_mark v) (is_mark w) (is_mark x) (is_mark y) (is_mark z)
by_byte xs n = absurd (omega arith)

-- ---- a field is its name and spaces

blank : (x : ℕ) → is_space x ≡ true → is_mark x ≡ false
blank x h = grind (arith, nat_tests)

spaces : (xs : List ℕ) → list_all is_space xs ≡ true → needs_quotes xs ≡ false
spaces [] h = refl
spaces (x ∷ xs) h =
    let both = and_parts (is_space x) (list_all is_space xs) h in
    ap₂ (λ (m : Bool) (n : Bool). m || n) (blank x both.0) (spaces xs both.1)

name_length : (xs : List ℕ) → length (name_of xs) ≡ prefix_len (λ byte. not (is_space byte)) xs
name_length xs = grind (arith, common_steps)

split : (xs : List ℕ) → name_of xs ++ filling_of xs ≡ xs
split xs =
    let k = prefix_len (λ byte. not (is_space byte)) xs in
    ap (λ (n : ℕ). take k xs ++ drop n xs) (name_length xs) ∙ take-append-drop k xs

of_name : (field : List ℕ) → list_all is_space (filling_of field) ≡ true
    → needs_quotes field ≡ needs_quotes (name_of field)
of_name field h =
    ap needs_quotes (sym (split field))
    ∙ list_any-append is_mark (name_of field) (filling_of field)
    ∙ ap (λ (r : Bool). needs_quotes (name_of field) || r) (spaces (filling_of field) h)
    ∙ or_false (needs_quotes (name_of field))

-- its bytes tested one by one
pub tested : (xs : List ℕ) → is_symbol_field xs ≡ true
    → (((((((is_mark (get_or xs 0 0) || is_mark (get_or xs 1 0)) || is_mark (get_or xs 2 0))
    || is_mark (get_or xs 3 0)) || is_mark (get_or xs 4 0)) || is_mark (get_or xs 5 0))
    || is_mark (get_or xs 6 0)) || is_mark (get_or xs 7 0)) ≡ needs_quotes (name_of xs)
tested xs is =
    let parts = and_parts (length xs == 8) (is_symbol_name (name_of xs)
    && list_all is_space (filling_of xs)) is in
    let halves = and_parts (is_symbol_name (name_of xs)) (list_all is_space (filling_of xs))
    parts.1 in
    by_byte xs (eqb-true (length xs) 8 parts.0) ∙ of_name xs halves.1
