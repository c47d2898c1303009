-- The lengths of periods by their words: a number and a unit, as 100ms or 1s.
use Rattle.std.specs.Prelude.{◌≡◌, ◌≢◌, ℕ, ◌*◌, ◌≤◌, List, ◌++◌, codes}
use Rattle.std.specs.Str.Parse.{IsNumeral, digits_value, without_leading_plus}
use Rattle.command_words.specs.declared.period_words.PeriodUnit.{PeriodUnit}
use Rattle.command_words.specs.declared.period_words.PeriodUnit.TheVariants.{Milliseconds, Seconds}

abbrev pub milliseconds_in : PeriodUnit → ℕ → ℕ
milliseconds_in Milliseconds count = count
milliseconds_in Seconds count = count * 1000

-- the text is a number and the unit's letters: ms, or an s alone
abbrev pub IsInUnit : PeriodUnit → (number text : List ℕ) → Type 0
IsInUnit Milliseconds number text = text ≡ (number ++ codes "m") ++ codes "s"
IsInUnit Seconds number text =
    (text ≡ number ++ codes "s") × ((front : List ℕ) → number ≢ front ++ codes "m")

-- A number of units is the length of a period, in nanoseconds: from a millisecond to an hour.
pub record IsLengthOf (unit : PeriodUnit) (number : List ℕ) (length : ℕ) : Type 0 where
  pub numeral : IsNumeral 10 (without_leading_plus number)
  pub least : 1 ≤ milliseconds_in unit (digits_value 10 (without_leading_plus number))
  pub most : milliseconds_in unit (digits_value 10 (without_leading_plus number)) ≤ 3600000
  pub is : length
      ≡ milliseconds_in unit (digits_value 10 (without_leading_plus number)) * 1000000

-- A text spells the length of a period.
pub record SpellsPeriod (text : List ℕ) (length : ℕ) : Type 0 where
  pub unit : PeriodUnit
  pub number : List ℕ
  pub parts : IsInUnit unit number text
  pub of_unit : IsLengthOf unit number length
