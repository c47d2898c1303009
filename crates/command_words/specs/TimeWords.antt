-- Times by their words, in nanoseconds from 1970 on: a date and a time of day, or seconds as rows
-- have them.
use Rattle.std.specs.Prelude.{◌≡◌, ◌⊎◌, ℕ, ◌+◌, ◌*◌, ◌<◌, ◌==◌, ◌^◌, Bool, pos, List, Ok, length}
use Rattle.std.specs.List.{after_first, before_first}
use Rattle.std.specs.Str.Parse.{IsNumeral, digits_value}
use Rattle.jiff.specs.Words.{parse_timestamp}

-- A text spells an instant: a date and a time of day with its offset from UTC, Z for UTC itself, as
-- in RFC 3339, with nine decimals at most; so the crate jiff reads it.
pub record SpellsInstant (text : List ℕ) (time : ℕ) : Type 0 where
  pub is : parse_timestamp text ≡ Ok (pos time)
  pub word : time < 2 ^ 64

-- digits, one or more, spell a number of 64 bits
pub record SpellsNumber (digits : List ℕ) (number : ℕ) : Type 0 where
  pub numeral : IsNumeral 10 digits
  pub is : number ≡ digits_value 10 digits
  pub word : number < 2 ^ 64

abbrev pub is_point : ℕ → Bool
is_point byte = byte == 46

-- A text spells seconds: a number of them, a point and nine decimals, as 1780000000.000003000.
pub record SpellsSeconds (text : List ℕ) (time : ℕ) : Type 0 where
  pub seconds : ℕ
  pub rest : ℕ
  pub whole : SpellsNumber (before_first is_point text) seconds
  pub decimals : SpellsNumber (after_first is_point text) rest
  pub nine : length (after_first is_point text) ≡ 9
  pub is : time ≡ seconds * 1000000000 + rest
  pub word : time < 2 ^ 64

-- A text spells a time, which has 64 bits: it is before the year 2554.
abbrev pub SpellsTime : List ℕ → ℕ → Type 0
SpellsTime text time = SpellsInstant text time ⊎ SpellsSeconds text time
