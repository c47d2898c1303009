-- The number of an option, looked for option by option.
use Rattle.std.proofs.Common.{◌≡◌, ℕ, zero, suc, ◌+◌, ◌<◌, ◌≤◌, Bool, true, false, List, length, refl, sym, ap, subst, ◌∙◌, arith, inl, inr}
use Rattle.std.specs.Prelude.{◌==◌, ◌&&◌, if◌then◌else◌}
use Rattle.std.proofs.lemmas.Bool.{cases_lt, le-leb, lt-leb, and_from, and_left, and_right}
use Rattle.packet_capture.specs.declared.fields.ByteOrder.{ByteOrder}
use Rattle.packet_capture.specs.Fields.{u16_in, u64_in}
use Rattle.packet_capture.specs.Interfaces.{OptionField, IsAtFront, after_option}
use Rattle.packet_capture.specs.DropReports.{begins_option, first_option, option_number}

begun : (order : ByteOrder) (bytes : List ℕ) → 4 ≤ length bytes → 1 ≤ u16_in order bytes 0
    → 4 + u16_in order bytes 2 ≤ length bytes → begins_option order bytes ≡ true
begun order bytes there some within =
    and_from _ _ (le-leb _ _ there) (and_from _ _ (le-leb _ _ some) (le-leb _ _ within))

not_begun_short : (order : ByteOrder) (bytes : List ℕ) → length bytes < 4
    → begins_option order bytes ≡ false
not_begun_short order bytes short = and_left _ _ (lt-leb _ _ short)

not_begun_end : (order : ByteOrder) (bytes : List ℕ) → u16_in order bytes 0 ≡ 0
    → begins_option order bytes ≡ false
not_begun_end order bytes none =
    let few : u16_in order bytes 0 < 1 = omega (arith, none) in
    and_right _ _ (and_left _ _ (lt-leb 1 (u16_in order bytes 0) few))

not_begun_cut : (order : ByteOrder) (bytes : List ℕ)
    → length bytes < 4 + u16_in order bytes 2 → begins_option order bytes ≡ false
not_begun_cut order bytes cut = and_right _ _ (and_right _ _ (lt-leb _ _ cut))

no_number : (most : ℕ) (order : ByteOrder) (code : ℕ) (bytes : List ℕ)
    → begins_option order bytes ≡ false → option_number most order code bytes ≡ 0
no_number zero order code bytes none = refl
no_number (suc most) order code bytes none =
    ap (λ (b : Bool). if b
    then (if ((first_option order bytes).code == code)
    && (length (first_option order bytes).value == 8)
    then u64_in order (first_option order bytes).value 0
    else option_number most order code (after_option order bytes)) else 0) none

-- too few bytes for an option
pub short_number : (order : ByteOrder) (code : ℕ) (bytes : List ℕ) → length bytes < 4
    → option_number (length bytes) order code bytes ≡ 0
short_number order code bytes short =
    no_number (length bytes) order code bytes (not_begun_short order bytes short)

-- what is left to look at
pub record NumberLeft (order : ByteOrder) (code : ℕ) (bytes rest : List ℕ) : Type 0 where
  pub most : ℕ
  pub enough : length rest ≤ most
  pub same : option_number (length bytes) order code bytes
      ≡ option_number most order code rest

pub number_left : (order : ByteOrder) (code : ℕ) (bytes : List ℕ)
    → NumberLeft order code bytes bytes
number_left order code bytes =
    record { most = length bytes; enough = omega arith; same = refl }

first_is : (order : ByteOrder) (bytes : List ℕ) (o : OptionField) → IsAtFront order bytes o
    → o ≡ first_option order bytes
first_is order bytes o front =
    let code = front.code in let value = front.value in
    λ i. record { code = code i; value = value i }

one_step : (most : ℕ) (order : ByteOrder) (code : ℕ) (rest : List ℕ) (o : OptionField)
    → IsAtFront order rest o → length rest ≤ suc most
    → option_number (suc most) order code rest
    ≡ (if (o.code == code) && (length o.value == 8) then u64_in order o.value 0
    else option_number most order code (after_option order rest))
one_step most order code rest o front enough =
    let begins = begun order rest front.there (subst (λ (n : ℕ). 1 ≤ n) front.code front.goes_on)
    front.within in
    let next : ℕ = option_number most order code (after_option order rest) in
    let by : OptionField → ℕ = λ x. if (x.code == code) && (length x.value == 8)
    then u64_in order x.value 0 else next in
    ap (λ (b : Bool). if b then by (first_option order rest) else 0) begins
    ∙ ap by (sym (first_is order rest o front))

pub number_more : (order : ByteOrder) (code : ℕ) (bytes rest after : List ℕ) (o : OptionField)
    → NumberLeft order code bytes rest → IsAtFront order rest o
    → after ≡ after_option order rest → length after < length rest
    → ((o.code == code) && (length o.value == 8)) ≡ false → NumberLeft order code bytes after
number_more order code bytes rest after o left front goes shorter other =
    more left.most left.enough left.same
  where
    more : (most : ℕ) → length rest ≤ most
        → option_number (length bytes) order code bytes ≡ option_number most order code rest
        → NumberLeft order code bytes after
    more zero enough same = absurd (omega arith)
    more (suc most) enough same = record {
      most = most;
      enough = omega arith;
      same = same ∙ one_step most order code rest o front enough
          ∙ ap (λ (b : Bool). if b then u64_in order o.value 0
          else option_number most order code (after_option order rest)) other
          ∙ ap (λ (x : List ℕ). option_number most order code x) (sym goes);
    }

pub number_found : (order : ByteOrder) (code : ℕ) (bytes rest : List ℕ) (o : OptionField)
    → NumberLeft order code bytes rest → IsAtFront order rest o
    → ((o.code == code) && (length o.value == 8)) ≡ true
    → option_number (length bytes) order code bytes ≡ u64_in order o.value 0
number_found order code bytes rest o left front is = found left.most left.enough left.same
  where
    found : (most : ℕ) → length rest ≤ most
        → option_number (length bytes) order code bytes ≡ option_number most order code rest
        → option_number (length bytes) order code bytes ≡ u64_in order o.value 0
    found zero enough same = let there = front.there in absurd (omega arith)
    found (suc most) enough same = same ∙ one_step most order code rest o front enough
        ∙ ap (λ (b : Bool). if b then u64_in order o.value 0
        else option_number most order code (after_option order rest)) is

pub number_none : (order : ByteOrder) (code : ℕ) (bytes rest : List ℕ)
    → NumberLeft order code bytes rest → (4 ≤ length rest → u16_in order rest 0 ≡ 0)
    → 0 ≡ option_number (length bytes) order code bytes
number_none order code bytes rest left end =
    sym (left.same ∙ no_number left.most order code rest (elim (cases_lt (length rest) 4) [
      | inl short ↦ not_begun_short order rest short
      | inr there ↦ not_begun_end order rest (end there)
    ]))

pub number_cut : (order : ByteOrder) (code : ℕ) (bytes rest : List ℕ)
    → NumberLeft order code bytes rest → length rest < 4 + u16_in order rest 2
    → 0 ≡ option_number (length bytes) order code bytes
number_cut order code bytes rest left cut =
    sym (left.same ∙ no_number left.most order code rest (not_begun_cut order rest cut))
