-- The lengths of periods that texts spell.
use Rattle.std.proofs.Common.{◌≡◌, ◌≢◌, ℕ, ◌≤◌, ◌<◌, ◌*◌, ◌^◌, List, Option, None, Some, ◌++◌, codes, sym, ap, subst, ◌∙◌, arith, refl}
use Rattle.std.specs.Prelude.{MatchOption, SomeIff}
use Rattle.std.proofs.lemmas.List.{append_cancel_right}
use Rattle.std.specs.Str.Parse.{IsNumeral, digits_value, without_leading_plus}
use Rattle.command_words.specs.declared.period_words.PeriodUnit.{PeriodUnit}
use Rattle.command_words.specs.declared.period_words.PeriodUnit.TheVariants.{Milliseconds, Seconds}
use Rattle.command_words.specs.PeriodWords.{IsInUnit, IsLengthOf, SpellsPeriod, milliseconds_in}

-- a text that doesn't end in an s is in no unit
pub no_unit : (text : List ℕ) → ((front : List ℕ) → text ≢ front ++ codes "s")
    → (unit : PeriodUnit) (number : List ℕ) → IsInUnit unit number text → ⊥
no_unit text none Milliseconds number is = none (number ++ codes "m") is
no_unit text none Seconds number is = none number is.0

-- a text is in one unit, and one number of it
pub one_unit : (text : List ℕ) (unit other : PeriodUnit) (number further : List ℕ)
    → IsInUnit unit number text → IsInUnit other further text → (unit ≡ other) × (number ≡ further)
one_unit text Milliseconds Milliseconds number further is also =
    let fronts = append_cancel_right (number ++ codes "m") (further ++ codes "m") (codes "s")
    (sym is ∙ also) in
    (refl, append_cancel_right number further (codes "m") fronts)
one_unit text Milliseconds Seconds number further is also =
    absurd (also.1 number (append_cancel_right further (number ++ codes "m") (codes "s")
    (sym also.0 ∙ is)))
one_unit text Seconds Milliseconds number further is also =
    absurd (is.1 further (append_cancel_right number (further ++ codes "m") (codes "s")
    (sym is.0 ∙ also)))
one_unit text Seconds Seconds number further is also =
    (refl, append_cancel_right number further (codes "s") (sym is.0 ∙ also.0))

-- so it spells no period where the number of its unit is no length
pub spells_none : (text : List ℕ) (unit : PeriodUnit) (number : List ℕ) → IsInUnit unit number text
    → ((length : ℕ) → IsLengthOf unit number length → ⊥) → (length : ℕ) → SpellsPeriod text length
    → ⊥
spells_none text unit number is none length spelled =
    let one = one_unit text spelled.unit unit spelled.number number spelled.parts is in
    none length (subst (λ (u : PeriodUnit). IsLengthOf u number length) one.0
    (subst (λ (n : List ℕ). IsLengthOf spelled.unit n length) one.1 spelled.of_unit))

-- a number of units that is a length has 32 bits
pub few_units : (unit : PeriodUnit) (count : ℕ) → milliseconds_in unit count ≤ 3600000
    → count < 2 ^ 32
few_units Milliseconds count most = omega (arith, most)
few_units Seconds count most = omega (arith, most)

-- the length that a number of units gives, if it is in range
pub is_length : (unit : PeriodUnit) (number : List ℕ) (count ms : ℕ) (r : Option ℕ)
    → IsNumeral 10 (without_leading_plus number)
    → count ≡ digits_value 10 (without_leading_plus number) → ms ≡ milliseconds_in unit count
    → SomeIff r ((1 ≤ ms) × (ms ≤ 3600000)) (ms * 1000000)
    → MatchOption r ((length : ℕ) → IsLengthOf unit number length → ⊥) (IsLengthOf unit number)
is_length unit number count ms None numeral value counted none = λ length is.
    let same = sym (counted ∙ ap (milliseconds_in unit) value) in
    none (subst (λ (k : ℕ). 1 ≤ k) same is.least, subst (λ (k : ℕ). k ≤ 3600000) same is.most)
is_length unit number count ms (Some length) numeral value counted (range, is) =
    let same = counted ∙ ap (milliseconds_in unit) value in
    record {
      numeral = numeral;
      least = subst (λ (k : ℕ). 1 ≤ k) same range.0;
      most = subst (λ (k : ℕ). k ≤ 3600000) same range.1;
      is = is ∙ ap (λ (k : ℕ). k * 1000000) same;
    }

-- the period that a text in a unit spells, if its number is a length
pub spells_by : (text : List ℕ) (unit : PeriodUnit) (number : List ℕ) (r : Option ℕ)
    → IsInUnit unit number text
    → MatchOption r ((length : ℕ) → IsLengthOf unit number length → ⊥) (IsLengthOf unit number)
    → MatchOption r ((length : ℕ) → SpellsPeriod text length → ⊥) (SpellsPeriod text)
spells_by text unit number None is none = spells_none text unit number is none
spells_by text unit number (Some length) is of_unit =
    record { unit = unit; number = number; parts = is; of_unit = of_unit }
