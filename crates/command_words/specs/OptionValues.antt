-- The values of options, in the rows in which the crate clap tells them: lists, numbers and flags.
use Rattle.std.specs.Prelude.{ℕ, ◌^◌, ◌&&◌, nat_lt, nat_le, [], List, Bool, false, Option, Some, None, codes, length, if◌then◌else◌, option_and_then, unwrap_or}
use Rattle.std.specs.Char.{digit_value}
use Rattle.std.specs.List.{list_all}
use Rattle.std.specs.Option.{option_map_or}
use Rattle.std.specs.Str.{bytes_eq}
use Rattle.std.specs.Str.Parse.{digits_value, without_leading_plus}
use Rattle.clap.specs.Walk.{Row, Text, all_of, first_of}

-- the values of the options of this command, where that is the subcommand
abbrev pub rows_of_command : (command : Text) → Option (Text × List Row) → Option (List Row)
rows_of_command command None = None
rows_of_command command (Some (name, rows)) = if bytes_eq name command then Some rows else None

-- the list of sessions, empty where none is given
abbrev pub list_in : List Row → Text
list_in rows = unwrap_or (first_of (codes "sessions") rows) []

-- the list of lines, empty where none is given
abbrev pub lines_in : List Row → Text
lines_in rows = unwrap_or (first_of (codes "lines") rows) []

-- the words for symbols, none where none is given
abbrev pub symbol_words_in : List Row → List Text
symbol_words_in rows = unwrap_or (all_of (codes "symbols") rows) []

-- the texts that name files of snapshots, none where none is given
abbrev pub snapshot_texts_in : List Row → List Text
snapshot_texts_in rows = unwrap_or (all_of (codes "snapshot") rows) []

-- decimal digits, one or more
abbrev pub is_numeral : Text → Bool
is_numeral digits = nat_lt 0 (length digits) && list_all (λ c. nat_lt (digit_value c) 10) digits

-- the number that digits spell, if it has 32 bits
abbrev pub number_of_digits : Text → Option ℕ
number_of_digits digits =
    if is_numeral digits && nat_lt (digits_value 10 digits) (2 ^ 32)
    then Some (digits_value 10 digits) else None

-- the number that a text spells, with a plus before it or without one
abbrev pub number_given : Option Text → Option ℕ
number_given text = option_and_then (λ t. number_of_digits (without_leading_plus t)) text

-- the window that a text gives, from 1 to 65535, by default 4096
abbrev pub in_window : ℕ → ℕ
in_window number = if nat_le 1 number && nat_le number 65535 then number else 4096

abbrev pub window_in : Option Text → ℕ
window_in text = option_map_or in_window (number_given text) 4096

-- a flag that is given has the value true
abbrev pub is_flag_set : Option Text → Bool
is_flag_set text = option_map_or (λ t. bytes_eq t (codes "true")) text false
