-- A symbol's field as a word, less a space in each byte.
use Rattle.std.proofs.Common.{◌≡◌, ℕ, ◌+◌, ◌-◌, ◌%◌, ◌^◌, ◌<◌, Bool, true, false, ◌&&◌, not, nat_eq, bit_and, bit_or, List, [], ◌∷◌, map, length, refl, sym, ap, ap₂, subst, ◌∙◌, true≢false, arith}
use Rattle.std.specs.Prelude.{nat_le}
use Rattle.std.specs.List.{list_all}
use Rattle.std.proofs.lemmas.Bool.{and_parts}
use Rattle.std.proofs.lemmas.List.{length-map}
use Rattle.std.proofs.lemmas.Bool.Decides.{nat_tests}
use Rattle.feed_types.specs.FieldTests.{word_with, is_low, AreEightLow, Marks, is_name_filled}
use Rattle.feed_types.specs.Symbols.{is_symbol_field}
use Rattle.feed_types.proofs.Fields.{may_stand, is_no_space, tested}
use Rattle.feed_types.proofs.Lanes.{Small, tops_of, added, eight_of, below_word, small_sum, no_marks, neither, digits, length-digits, small_digits, word-digits, same_bytes}

abbrev lift : List ℕ → List ℕ
lift ys = map (λ y. y + 32) ys

abbrev lower : List ℕ → List ℕ
lower xs = map (λ x. x - 32) xs

-- ---- each byte

may_stand-lift : (y : ℕ) → not (nat_le 95 y) ≡ may_stand (y + 32)
may_stand-lift y = grind (arith, nat_tests)

no_space-lift : (y : ℕ) → is_no_space (y + 32) ≡ nat_le 1 y
no_space-lift y = grind (arith, nat_tests)

low_is : (y : ℕ) → not (nat_le 128 y) ≡ is_low y
low_is y = grind (arith, nat_tests)

stands : (ys : List ℕ) → list_all (λ y. may_stand (y + 32)) ys ≡ list_all may_stand (lift ys)
stands [] = refl
stands (y ∷ ys) = ap (λ (b : Bool). may_stand (y + 32) && b) (stands ys)

marks-lift : (ys : List ℕ) → map is_no_space (lift ys) ≡ map (nat_le 1) ys
marks-lift [] = refl
marks-lift (y ∷ ys) = ap₂ (λ (b : Bool) (bs : List Bool). b ∷ bs) (no_space-lift y) (marks-lift ys)

lower-back : (x : ℕ) → may_stand x ≡ true → x - 32 + 32 ≡ x
lower-back x h = grind (arith, nat_tests)

lift-lower : (xs : List ℕ) → list_all may_stand xs ≡ true → lift (lower xs) ≡ xs
lift-lower [] h = refl
lift-lower (x ∷ xs) h =
    let both = and_parts (may_stand x) (list_all may_stand xs) h in
    ap₂ (λ (c : ℕ) (cs : List ℕ). c ∷ cs) (lower-back x both.0) (lift-lower xs both.1)

lower-low : (x : ℕ) → may_stand x ≡ true → is_low (x - 32) ≡ true
lower-low x h = grind (arith, nat_tests)

low-lower : (xs : List ℕ) → list_all may_stand xs ≡ true → list_all is_low (lower xs) ≡ true
low-lower [] h = refl
low-lower (x ∷ xs) h =
    let both = and_parts (may_stand x) (list_all may_stand xs) h in
    ap₂ (λ (b : Bool) (c : Bool). b && c) (lower-low x both.0) (low-lower xs both.1)

small_low : (y : ℕ) → is_low y ≡ true → y < 256
small_low y h = grind (arith, nat_tests)

all_small : (ys : List ℕ) → list_all is_low ys ≡ true → Small ys
all_small [] h = tt
all_small (y ∷ ys) h =
    let both = and_parts (is_low y) (list_all is_low ys) h in
    (small_low y both.0, all_small ys both.1)

-- ---- the word less a space in each byte

module _ (xs : List ℕ) (long : length xs ≡ 8) (small : Small xs) (above : ℕ)
    (is : above ≡ (word_with xs + 0xdfdf_dfdf_dfdf_dfe0) % 2 ^ 64) where
  abbrev ys : List ℕ
  ys = digits 8 above

  spelt : word_with ys ≡ above
  spelt = word-digits 8 above (omega arith)

  -- below 80 each byte was a space or more
  lifted : list_all is_low ys ≡ true → xs ≡ lift ys
  lifted h =
      let longer : length (lift ys) ≡ 8 = length-map ys (λ y. y + 32) ∙ length-digits 8 above in
      let lifts = small_sum 32 (omega arith) ys h in
      same_bytes xs (lift ys) (omega (arith, longer)) small lifts
      (omega (
        arith,
        spelt,
        added 32 ys,
        eight_of 32 ys (length-digits 8 above),
        below_word (lift ys) longer lifts,
        below_word xs long small,
      ))

  -- where each byte may be, none reaches 80
  lowered : list_all may_stand xs ≡ true → list_all is_low ys ≡ true
  lowered h =
      let zs = lower xs in
      let shorter : length zs ≡ 8 = length-map xs (λ x. x - 32) ∙ long in
      let low = low-lower xs h in
      let back : word_with (lift zs) ≡ word_with xs = ap word_with (lift-lower xs h) in
      let same : ys ≡ zs = same_bytes ys zs (omega (arith, shorter, length-digits 8 above))
      (small_digits 8 above) (all_small zs low)
      (omega (arith, spelt, back, added 32 zs, eight_of 32 zs shorter, below_word xs long small)) in
      subst (λ (l : List ℕ). list_all is_low l ≡ true) (sym same) low

  untopped : nat_eq (bit_and above 0x8080_8080_8080_8080) 0 ≡ list_all is_low ys
  untopped =
      ap₂ (λ (w : ℕ) (m : ℕ). nat_eq (bit_and w m) 0) (sym spelt)
      (sym (eight_of 128 ys (length-digits 8 above)))
      ∙ ap (λ (w : ℕ). nat_eq w 0) (tops_of ys (small_digits 8 above))
      ∙ no_marks (nat_le 128) is_low low_is ys

  module _ (past mis : ℕ)
      (past_is : Marks (nat_le 95) above past)
      (mis_is : (bytes : List ℕ) → AreEightLow bytes → above ≡ word_with bytes
      → nat_eq mis 0 ≡ is_name_filled (map (nat_le 1) bytes)) where
    by_low : (b : Bool) → list_all is_low ys ≡ b
        → (b && nat_eq past 0 && nat_eq mis 0) ≡ (list_all may_stand xs
        && is_name_filled (map is_no_space xs))
    by_low true h =
        let are : AreEightLow ys = record { eight = length-digits 8 above; low = h } in
        ap₂ (λ (p : Bool) (m : Bool). p && m)
        (ap (λ (w : ℕ). nat_eq w 0) (past_is ys are (sym spelt))
        ∙ no_marks (nat_le 95) (λ y. may_stand (y + 32)) may_stand-lift ys ∙ stands ys)
        (mis_is ys are (sym spelt) ∙ ap is_name_filled (sym (marks-lift ys)))
        ∙ ap (λ (l : List ℕ). list_all may_stand l && is_name_filled (map is_no_space l))
        (sym (lifted h))
    by_low false h = by_all (list_all may_stand xs) refl
      where
        by_all : (b : Bool) → list_all may_stand xs ≡ b
            → false ≡ (b && is_name_filled (map is_no_space xs))
        by_all true e = absurd (true≢false (sym (lowered e) ∙ h))
        by_all false e = refl

    pub tested_word : nat_eq (bit_or (bit_or (bit_and above 0x8080_8080_8080_8080) past) mis)
        0 ≡ is_symbol_field xs
    tested_word =
        neither (bit_or (bit_and above 0x8080_8080_8080_8080) past) mis
        ∙ ap (λ (b : Bool). b && nat_eq mis 0) (neither (bit_and above 0x8080_8080_8080_8080) past
        ∙ ap (λ (b : Bool). b && nat_eq past 0) untopped)
        ∙ by_low (list_all is_low ys) refl
        ∙ tested xs long
