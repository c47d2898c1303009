-- Names of sessions as words of a command line.
use Rattle.std.specs.Prelude.{ℕ, ◌-◌, Bool, ◌&&◌, ◌||◌, ◌==◌, not, List, ◌++◌, codes, length, nat_le, take, if◌then◌else◌}
use Rattle.std.specs.Char.{is_ascii_alphanumeric}
use Rattle.std.specs.List.{list_all, suffix_len}
use Rattle.feed_types.specs.Symbols.{is_space}

-- a byte that stands for itself in a list and in a shell: a letter, a digit, or one of %+-./:@_
abbrev pub is_plain_byte : ℕ → Bool
is_plain_byte b =
    is_ascii_alphanumeric b || b == 37 || b == 43 || b == 45 || b == 46 || b == 47 || b == 58
    || b == 64 || b == 95

-- one that can stand between quotation marks in a list: no comma, and no quotation mark
abbrev pub is_listed_byte : ℕ → Bool
is_listed_byte b = not (b == 44) && not (b == 39)

-- a name without the spaces at its end, which --sessions needn't be given
abbrev pub trimmed_name : List ℕ → List ℕ
trimmed_name name = take (length name - suffix_len is_space name) name

abbrev pub can_be_listed : List ℕ → Bool
can_be_listed name =
    nat_le 1 (length (trimmed_name name)) && list_all is_listed_byte (trimmed_name name)

-- the name, in quotation marks where a byte doesn't stand for itself
abbrev pub session_word : List ℕ → List ℕ
session_word name =
    if list_all is_plain_byte (trimmed_name name) then trimmed_name name
    else codes "'" ++ (trimmed_name name ++ codes "'")
