-- A word and its bytes: what a sum and the bit operations do to each byte.
use Rattle.std.proofs.Common.{◌≡◌, ℕ, zero, suc, ◌+◌, ◌-◌, ◌*◌, ◌/◌, ◌%◌, ◌^◌, ◌<◌, ◌≤◌, Bool, true, false, cond, ◌&&◌, not, nat_eq, bit_and, bit_or, bit_xor, List, [], ◌∷◌, map, length, refl, sym, ap, ap₂, ◌∙◌, pow-suc, get_or, arith}
use Rattle.std.specs.Prelude.{nat_le, ⊤}
use Rattle.std.specs.Int.{w64, from_le_bytes}
use Rattle.std.specs.List.{list_all}
use Rattle.std.proofs.lemmas.Bool.{and_parts}
use Rattle.std.proofs.lemmas.Bool.Decides.{nat_tests}
use Rattle.std.proofs.lemmas.Nat.{and_block, le_or_l, le_or_r}
use Rattle.std.proofs.lemmas.List.{length-map}
use Rattle.std.proofs.lemmas.Nat.Bits.{and_pow}
use Rattle.feed_types.specs.FieldTests.{word_with, flags, is_low, AreEightLow, is_name_filled}

-- each is a byte
abbrev pub Small : List ℕ → Type 0
Small [] = ⊤
Small (b ∷ bs) = (b < 256) × Small bs

-- ---- the top bits of a word's bytes

high_bit : (b : ℕ) → b < 256 → bit_and b 128 ≡ cond (nat_le 128 b) 128 0
high_bit b l = grind (arith, nat_tests, and_pow b 7)

turned : (b w : ℕ) → b + 256 * w ≡ w * 2 ^ 8 + b
turned b w = omega arith

pub tops_of : (bs : List ℕ) → Small bs
    → bit_and (word_with bs) (word_with (map (λ _. 128) bs)) ≡ flags (map (nat_le 128) bs)
tops_of [] s = refl
tops_of (b ∷ bs) s =
    ap₂ bit_and (turned b (word_with bs)) (turned 128 (word_with (map (λ _. 128) bs)))
    ∙ and_block 8 (word_with bs) (word_with (map (λ _. 128) bs)) b 128 s.0 (omega arith)
    ∙ omega (arith, tops_of bs s.1, high_bit b s.0)

-- ---- the same addend in each byte

pub added : (c : ℕ) (bs : List ℕ) → word_with (map (λ b. b + c) bs) ≡ word_with
    bs + word_with (map (λ _. c) bs)
added c [] = refl
added c (b ∷ bs) = omega (arith, added c bs)

pub eight_of : (c : ℕ) (bs : List ℕ) → length bs ≡ 8
    → word_with (map (λ _. c) bs) ≡ c * 0x0101_0101_0101_0101
eight_of c (s ∷ t ∷ u ∷ v ∷ w ∷ x ∷ y ∷ z ∷ []) n = omega arith
eight_of c bs n = absurd (omega arith)

pub below_word : (bs : List ℕ) → length bs ≡ 8 → Small bs → word_with bs < 2 ^ 64
below_word (s ∷ t ∷ u ∷ v ∷ w ∷ x ∷ y ∷ z ∷ []) n (a, (b, (c, (d, (e, (f, (g, (h, _)))))))) =
    omega arith
below_word bs n s = absurd (omega arith)

low_byte : (b : ℕ) → is_low b ≡ true → b < 128
low_byte b h = grind (arith, nat_tests)

pub small_sum : (c : ℕ) → c ≤ 128 → (bs : List ℕ) → list_all is_low bs ≡ true
    → Small (map (λ b. b + c) bs)
small_sum c m [] h = tt
small_sum c m (b ∷ bs) h =
    let both = and_parts (is_low b) (list_all is_low bs) h in
    (omega (arith, low_byte b both.0), small_sum c m bs both.1)

reaches : (c limit b : ℕ) → limit + c ≡ 128 → nat_le 128 (b + c) ≡ nat_le limit b
reaches c limit b e = grind (arith, nat_tests)

same_marks : (c limit : ℕ) → limit + c ≡ 128 → (bs : List ℕ)
    → flags (map (nat_le 128) (map (λ b. b + c) bs)) ≡ flags (map (nat_le limit) bs)
same_marks c limit e [] = refl
same_marks c limit e (b ∷ bs) = ap₂ (λ (m : Bool) (w : ℕ). cond m 128 0 + 256 * w)
    (reaches c limit b e) (same_marks c limit e bs)

-- the top bits of the bytes that reach a limit, by an addend that lifts the limit to the top bit
pub reaching : (c limit : ℕ) → limit + c ≡ 128 → (bs : List ℕ) → AreEightLow bs
    → bit_and ((word_with bs + c * 0x0101_0101_0101_0101) % 2 ^ 64) 0x8080_8080_8080_8080 ≡ flags
    (map (nat_le limit) bs)
reaching c limit e bs are =
    let ys = map (λ b. b + c) bs in
    let long : length ys ≡ 8 = length-map bs (λ b. b + c) ∙ are.eight in
    let small = small_sum c (omega arith) bs are.low in
    let sum : (word_with bs + c * 0x0101_0101_0101_0101) % 2 ^ 64 ≡ word_with ys =
    omega (arith, added c bs, eight_of c bs are.eight, below_word ys long small) in
    ap₂ bit_and sum (sym (eight_of 128 ys long)) ∙ tops_of ys small ∙ same_marks c limit e bs

-- ---- what is marked

-- the test holds of each list of this many marks
abbrev every : ℕ → (List Bool → Bool) → Bool
every zero t = t []
every (suc k) t = every k (λ ms. t (true ∷ ms)) && every k (λ ms. t (false ∷ ms))

every_one : (k : ℕ) (t : List Bool → Bool) → every k t ≡ true → (ms : List Bool)
    → length ms ≡ k → t ms ≡ true
every_one zero t h [] n = h
every_one zero t h (m ∷ ms) n = absurd (omega arith)
every_one (suc k) t h [] n = absurd (omega arith)
every_one (suc k) t h (true ∷ ms) n =
    every_one k (λ ms. t (true ∷ ms)) (and_parts (every k (λ ms. t (true ∷ ms)))
    (every k (λ ms. t (false ∷ ms))) h).0 ms (omega arith)
every_one (suc k) t h (false ∷ ms) n =
    every_one k (λ ms. t (false ∷ ms)) (and_parts (every k (λ ms. t (true ∷ ms)))
    (every k (λ ms. t (false ∷ ms))) h).1 ms (omega arith)

abbrev same : Bool → Bool → Bool
same a b = cond a b (not b)

same_is : (a b : Bool) → same a b ≡ true → a ≡ b
same_is true true h = refl
same_is true false h = sym h
same_is false true h = h
same_is false false h = refl

abbrev pub misplaced : ℕ → ℕ
misplaced names = bit_xor (bit_and names (2 ^ 64 - 1 - names * 2 ^ 8 % 2 ^ 64)) 0x80

pub none_misplaced : (marks : List Bool) → length marks ≡ 8
    → nat_eq (misplaced (flags marks)) 0 ≡ is_name_filled marks
none_misplaced marks n = same_is _ _ (every_one 8 (λ ms. same (nat_eq (misplaced (flags ms)) 0)
    (is_name_filled ms)) refl marks n)

no_mark : (m : Bool) (w : ℕ) → nat_eq (cond m 128 0 + 256 * w) 0 ≡ (not m && nat_eq w 0)
no_mark true w = grind (arith, nat_tests)
no_mark false w = grind (arith, nat_tests)

-- no byte is marked where each passes the opposite test
pub no_marks : (p q : ℕ → Bool) → ((b : ℕ) → not (p b) ≡ q b) → (bs : List ℕ)
    → nat_eq (flags (map p bs)) 0 ≡ list_all q bs
no_marks p q e [] = refl
no_marks p q e (b ∷ bs) = no_mark (p b) (flags (map p bs))
    ∙ ap₂ (λ (x : Bool) (y : Bool). x && y) (e b) (no_marks p q e bs)

pub neither : (a b : ℕ) → nat_eq (bit_or a b) 0 ≡ (nat_eq a 0 && nat_eq b 0)
neither zero zero = refl
neither zero (suc b) = grind (arith, nat_tests, le_or_r zero (suc b))
neither (suc a) b = grind (arith, nat_tests, le_or_l (suc a) b)

-- ---- a word's bytes

pub digits : ℕ → ℕ → List ℕ
digits zero n = []
digits (suc k) n = n % 256 ∷ digits k (n / 256)

pub length-digits : (k n : ℕ) → length (digits k n) ≡ k
unfolding digits
length-digits zero n = refl
length-digits (suc k) n = ap suc (length-digits k (n / 256))

pub small_digits : (k n : ℕ) → Small (digits k n)
unfolding digits
small_digits zero n = tt
small_digits (suc k) n = (omega arith, small_digits k (n / 256))

pub word-digits : (k n : ℕ) → n < 256 ^ k → word_with (digits k n) ≡ n
unfolding digits
word-digits zero n l = omega arith
word-digits (suc k) n l = omega (
  arith,
  pow-suc 256 k,
  word-digits k (n / 256)
      (omega (arith, pow-suc 256 k)),
)

-- no two lists of bytes have one word
pub same_bytes : (xs ys : List ℕ) → length xs ≡ length ys → Small xs → Small ys
    → word_with xs ≡ word_with ys → xs ≡ ys
same_bytes [] [] n s t e = refl
same_bytes [] (y ∷ ys) n s t e = absurd (omega arith)
same_bytes (x ∷ xs) [] n s t e = absurd (omega arith)
same_bytes (x ∷ xs) (y ∷ ys) n s t e =
    let small = s.0 in
    let other = t.0 in
    ap₂ (λ (c : ℕ) (cs : List ℕ). c ∷ cs) (omega arith)
    (same_bytes xs ys (omega arith) s.1 t.1 (omega arith))

pub small_at : (bs : List ℕ) → ((i : ℕ) → get_or bs i 0 < 256) → Small bs
small_at [] h = tt
small_at (b ∷ bs) h = (h 0, small_at bs (λ i. h (suc i)))

pub read : (bs : List ℕ) → length bs ≡ 8 → from_le_bytes w64 bs ≡ word_with bs
read (s ∷ t ∷ u ∷ v ∷ w ∷ x ∷ y ∷ z ∷ []) n = omega arith
read bs n = absurd (omega arith)
