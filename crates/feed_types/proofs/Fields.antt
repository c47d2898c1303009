-- A field's bytes tested one by one and by what they mark, and a field as a number.
use Rattle.std.proofs.Common.{◌≡◌, ℕ, zero, suc, ◌+◌, ◌<◌, ◌≤◌, Bool, true, false, ◌&&◌, not, List, [], ◌∷◌, map, length, get_or, refl, sym, ap, ◌∙◌, arith}
use Rattle.std.specs.Prelude.{nat_le}
use Rattle.std.specs.List.{list_all, prefix_len}
use Rattle.std.proofs.Math.Bool.{and_assoc}
use Rattle.std.proofs.lemmas.Bool.Decides.{nat_tests}
use Rattle.std.proofs.lemmas.Grind.{common_steps}
use Rattle.std.proofs.lemmas.Bool.{and_parts}
use Rattle.std.proofs.lemmas.Nat.{be_bytes_8}
use Rattle.std.specs.Int.{w64, to_be_bytes}
use Rattle.feed_types.specs.FieldTests.{is_filled, is_name_filled}
use Rattle.feed_types.specs.Symbols.{is_space, is_name_byte, name_of, filling_of, is_symbol_field, key_of}

-- a byte that a field may have
abbrev pub may_stand : ℕ → Bool
may_stand byte = nat_le 32 byte && nat_le byte 126

space_is : (x : ℕ) → is_space x ≡ true → may_stand x ≡ true
space_is x h = grind (arith, nat_tests)

other_is : (x : ℕ) → is_space x ≡ false → may_stand x ≡ is_name_byte x
other_is x h = grind (arith, nat_tests)

abbrev pub is_no_space : ℕ → Bool
is_no_space byte = not (is_space byte)

and_false : (b : Bool) → (b && false) ≡ false
and_false true = refl
and_false false = refl

-- after a space
behind_by : (s : Bool) (x : ℕ) (xs : List ℕ) → is_space x ≡ s
    → (list_all may_stand xs && list_all not (map is_no_space xs)) ≡ list_all is_space xs
    → (list_all may_stand (x ∷ xs) && list_all not (map is_no_space (x ∷ xs))) ≡ list_all is_space
    (x ∷ xs)
behind_by true x xs e i = rw (e, space_is x e) i
behind_by false x xs e i = rw e (and_false (list_all may_stand (x ∷ xs)))

behind : (xs : List ℕ) → (list_all may_stand xs && list_all not (map is_no_space xs)) ≡ list_all
    is_space xs
behind [] = refl
behind (x ∷ xs) = behind_by (is_space x) x xs refl (behind xs)

parts : List ℕ → Bool
parts xs = list_all is_name_byte (name_of xs) && list_all is_space (filling_of xs)

parts_space : (x : ℕ) (xs : List ℕ) → is_space x ≡ true → parts (x ∷ xs) ≡ list_all is_space xs
unfolding parts
parts_space x xs e = rw (e, e) refl

parts_other : (x : ℕ) (xs : List ℕ) → is_space x ≡ false
    → parts (x ∷ xs) ≡ (is_name_byte x && parts xs)
unfolding parts
parts_other x xs e =
    let one : 1 + prefix_len (λ byte. not (is_space byte)) xs ≡ suc
    (prefix_len (λ byte. not (is_space byte)) xs) = omega arith in
    rw (e, one) (and_assoc (is_name_byte x) (list_all is_name_byte (name_of xs))
    (list_all is_space (filling_of xs)))

whole_by : (s : Bool) (x : ℕ) (xs : List ℕ) → is_space x ≡ s
    → (list_all may_stand xs && is_filled (map is_no_space xs)) ≡ parts xs
    → (list_all may_stand (x ∷ xs) && is_filled (map is_no_space (x ∷ xs))) ≡ parts (x ∷ xs)
whole_by true x xs e i = rw (parts_space x xs e, e, space_is x e) (behind xs)
whole_by false x xs e i = rw (parts_other x xs e, e, other_is x e, ← i) (and_assoc (is_name_byte x)
    (list_all may_stand xs) (is_filled (map is_no_space xs)))

whole : (xs : List ℕ) → (list_all may_stand xs && is_filled (map is_no_space xs)) ≡ parts xs
unfolding parts
whole [] = refl
whole (x ∷ xs) = whole_by (is_space x) x xs refl (whole xs)

name_short : (xs : List ℕ) → length (name_of xs) ≤ length xs
name_short xs = grind (arith, common_steps)

name_first : (x : ℕ) (xs : List ℕ) → nat_le 1 (length (name_of (x ∷ xs))) ≡ not (is_space x)
name_first x xs = grind (arith, common_steps, nat_tests)

most_eight : (n : ℕ) → n ≤ 8 → nat_le n 8 ≡ true
most_eight n h = grind (arith, nat_tests)

first_taken : (a s : Bool) (ms : List Bool)
    → (a && (not s && is_filled ms)) ≡ (not s && (a && is_filled (not s ∷ ms)))
first_taken a true ms = and_false a
first_taken a false ms = refl

pub tested : (xs : List ℕ) → length xs ≡ 8
    → (list_all may_stand xs && is_name_filled (map is_no_space xs)) ≡ is_symbol_field xs
unfolding parts
tested [] n = absurd (omega arith)
tested (x ∷ xs) n =
    let m = most_eight (length (name_of (x ∷ xs))) (omega (arith, name_short (x ∷ xs))) in
    first_taken (list_all may_stand (x ∷ xs)) (is_space x) (map is_no_space xs)
    ∙ ap (λ (b : Bool). not (is_space x) && b) (whole (x ∷ xs))
    ∙ rw (n, name_first x xs, m)
    (sym (and_assoc (not (is_space x)) (list_all is_name_byte (name_of (x ∷ xs)))
    (list_all is_space (filling_of (x ∷ xs)))))

-- a symbol's bytes are bytes
small : (byte : ℕ) → may_stand byte ≡ true → byte < 256
small byte h = grind (arith, nat_tests)

all_small : (xs : List ℕ) → list_all may_stand xs ≡ true → (i : ℕ) → get_or xs i 0 < 256
all_small [] h i = omega arith
all_small (x ∷ xs) h zero = small x (and_parts (may_stand x) (list_all may_stand xs) h).0
all_small (x ∷ xs) h (suc i) = all_small xs (and_parts (may_stand x) (list_all may_stand xs) h).1 i

pub len_eight : (field : List ℕ) → is_symbol_field field ≡ true → length field ≡ 8
len_eight field h = grind (arith, nat_tests)

pub bytes_small : (field : List ℕ) → is_symbol_field field ≡ true → (i : ℕ) → get_or field i 0 < 256
bytes_small field h =
    let n = len_eight field h in
    all_small field (and_parts (list_all may_stand field) (is_name_filled (map is_no_space field))
    (tested field n ∙ h)).0

-- the number of a symbol's field gives its bytes again
pub bytes_of_word : (field : List ℕ) → is_symbol_field field ≡ true
    → to_be_bytes w64 (key_of field) ≡ field
bytes_of_word field h = be_bytes_8 field (key_of field) (len_eight field h)
    (bytes_small field h) refl
