-- Numbers in digits.
use Rattle.std.proofs.Common.{◌≡◌, ℕ, ◌+◌, ◌-◌, ◌*◌, ◌<◌, ◌≤◌, Bool, true, false, List, [], ◌∷◌, length, get_or, take, drop, sym, ap, subst, ◌∙◌, arith, inl, inr}
use Rattle.std.specs.Prelude.{fold, ◌⊎◌}
use Rattle.std.proofs.lemmas.Bool.{cases_lt, false≢true, eqb-true}
use Rattle.std.proofs.lemmas.List.{take_more, take-append-drop}
use Rattle.std.proofs.lemmas.List.Sums.{fold-append}
use Rattle.feed_types.specs.Symbols.{is_space}
use Rattle.venue_normaliser.specs.Snapshots.{HasDigits, IsNumberField, digits_value, is_digit}

abbrev step : ℕ → ℕ → ℕ
step n byte = n * 10 + (byte - 0x30)

-- one digit more
pub value_more : (ds : List ℕ) (i d : ℕ) → i < length ds → d ≡ get_or ds i 0
    → digits_value (take (i + 1) ds) ≡ digits_value (take i ds) * 10 + (d - 0x30)
value_more ds i d lt is =
    ap digits_value (take_more ds i 0 lt)
    ∙ fold-append (λ (n byte : ℕ). step n byte) 0 (take i ds) (get_or ds i 0 ∷ [])
    ∙ ap (λ (b : ℕ). digits_value (take i ds) * 10 + (b - 0x30)) (sym is)

grows : (n : ℕ) (ds : List ℕ) → n ≤ fold (λ n byte. step n byte) n ds
grows n [] = omega arith
grows n (d ∷ ds) = let more = grows (step n d) ds in omega arith

pub value_part : (ds : List ℕ) (i : ℕ) → digits_value (take i ds) ≤ digits_value ds
value_part ds i =
    subst (λ (n : ℕ). digits_value (take i ds) ≤ n)
    (sym (fold-append (λ (n byte : ℕ). step n byte) 0 (take i ds) (drop i ds))
    ∙ ap digits_value (take-append-drop i ds))
    (grows (digits_value (take i ds)) (drop i ds))

not_both : (b : ℕ) → is_space b ≡ true → is_digit b ≡ true → ⊥
not_both b space digit =
    let is : b ≡ 0x20 = eqb-true b 0x20 space in
    false≢true (subst (λ (c : ℕ). is_digit c ≡ true) is digit)

apart : (b : Bool) → b ≡ true → b ≡ false → ⊥
apart b t f = false≢true (sym f ∙ t)

-- the digits of a field begin at one place
one_from : (field : List ℕ) (a b c d : ℕ) → HasDigits field a b → HasDigits field c d → a < c → ⊥
one_from field a b c d x y lt =
    let some = x.some in
    not_both (get_or field a 0) (y.before a lt) (x.digits a (omega arith) (omega arith))

one_to : (field : List ℕ) (a b c d : ℕ) → HasDigits field a b → HasDigits field c d → a ≡ c
    → b < d → ⊥
one_to field a b c d x y same lt =
    let some = x.some in
    let within = y.within in
    not_both (get_or field b 0) (x.after b (omega arith) (omega arith))
    (y.digits b (omega arith) (omega arith))

pub one_span : (field : List ℕ) (a b c d : ℕ) → HasDigits field a b → HasDigits field c d
    → (a ≡ c) × (b ≡ d)
one_span field a b c d x y =
    let from : a ≡ c = elim (cases_lt a c) [
      | inl lt ↦ absurd (one_from field a b c d x y lt)
      | inr ge ↦ elim (cases_lt c a) [
        | inl lt ↦ absurd (one_from field c d a b y x lt)
        | inr le ↦ omega arith
      ]
    ] in
    let to : b ≡ d = elim (cases_lt b d) [
      | inl lt ↦ absurd (one_to field a b c d x y from lt)
      | inr ge ↦ elim (cases_lt d b) [
        | inl lt ↦ absurd (one_to field c d a b y x (sym from) lt)
        | inr le ↦ omega arith
      ]
    ] in (from, to)

-- the places where spaces, digits and spaces again stop
pub record Stops (field : List ℕ) (from to end : ℕ) : Type 0 where
  pub spaces : (k : ℕ) → 0 ≤ k → k < from → is_space (get_or field k 0) ≡ true
  pub first : from < length field → is_space (get_or field from 0) ≡ false
  pub up : from ≤ to
  pub digits : (k : ℕ) → from ≤ k → k < to → is_digit (get_or field k 0) ≡ true
  pub second : to < length field → is_digit (get_or field to 0) ≡ false
  pub on : to ≤ end
  pub most : end ≤ length field
  pub more : (k : ℕ) → to ≤ k → k < end → is_space (get_or field k 0) ≡ true
  pub third : end < length field → is_space (get_or field end 0) ≡ false

pub stops_found : (field : List ℕ) (from to end : ℕ) → Stops field from to end
    → from < to → end ≡ length field → HasDigits field from to
stops_found field from to end s some whole =
    let on = s.on in
    let most = s.most in
    record {
      some = some;
      within = omega arith;
      before = λ k lt. s.spaces k (omega arith) lt;
      digits = s.digits;
      after = λ k low lt. s.more k low (omega arith);
    }

pub stops_none : (field : List ℕ) (from to end a b : ℕ) → Stops field from to end
    → HasDigits field a b → ((from < to → ⊥) ⊎ (end ≡ length field → ⊥)) → ⊥
stops_none field from to end a b s h fails =
    let some = h.some in
    let within = h.within in
    let up = s.up in
    let on = s.on in
    let most = s.most in
    let first : a ≡ from = elim (cases_lt a from) [
      | inl lt ↦ absurd (not_both (get_or field a 0) (s.spaces a (omega arith) lt)
          (h.digits a (omega arith) (omega arith)))
      | inr ge ↦ elim (cases_lt from a) [
        | inl lt ↦ absurd (apart (is_space (get_or field from 0)) (h.before from lt)
            (s.first (omega arith)))
        | inr le ↦ omega arith
      ]
    ] in
    let second : b ≡ to = elim (cases_lt b to) [
      | inl lt ↦ absurd (not_both (get_or field b 0) (h.after b (omega arith) (omega arith))
          (s.digits b (omega arith) lt))
      | inr ge ↦ elim (cases_lt to b) [
        | inl lt ↦ absurd (apart (is_digit (get_or field to 0))
            (h.digits to (omega arith) lt) (s.second (omega arith)))
        | inr le ↦ omega arith
      ]
    ] in
    elim fails [
      | inl none ↦ none (omega arith)
      | inr short ↦ elim (cases_lt end (length field)) [
        | inl lt ↦ apart (is_space (get_or field end 0)) (h.after end (omega arith) lt)
            (s.third lt)
        | inr ge ↦ short (omega arith)
      ]
    ]

pub no_number_great : (field : List ℕ) (from to : ℕ) → HasDigits field from to
    → 4294967295 < digits_value (take (to - from) (drop from field))
    → (number : ℕ) → IsNumberField field number → number ≤ 4294967295 → ⊥
no_number_great field from to has great number is most =
    let same = one_span field from to is.from is.to has is.there in
    let value : digits_value (take (to - from) (drop from field)) ≡ number =
    ap (λ (n : ℕ). digits_value (take (to - n) (drop n field))) same.0
    ∙ ap (λ (n : ℕ). digits_value (take (n - is.from) (drop is.from field))) same.1
    ∙ sym is.is in
    omega arith

pub no_number_zero : (field : List ℕ) (from to : ℕ) → HasDigits field from to
    → digits_value (take (to - from) (drop from field)) ≡ 0
    → (number : ℕ) → IsNumberField field number → 1 ≤ number → ⊥
no_number_zero field from to has none number is one =
    let same = one_span field from to is.from is.to has is.there in
    let value : digits_value (take (to - from) (drop from field)) ≡ number =
    ap (λ (n : ℕ). digits_value (take (to - n) (drop n field))) same.0
    ∙ ap (λ (n : ℕ). digits_value (take (n - is.from) (drop is.from field))) same.1
    ∙ sym is.is in
    omega arith

-- a field has one number
pub one_number : (field : List ℕ) (n k : ℕ) → IsNumberField field n → IsNumberField field k
    → n ≡ k
one_number field n k a b =
    let same = one_span field a.from a.to b.from b.to a.there b.there in
    a.is ∙ ap (λ (m : ℕ). digits_value (take (a.to - m) (drop m field))) same.0
    ∙ ap (λ (m : ℕ). digits_value (take (m - b.from) (drop b.from field))) same.1 ∙ sym b.is
