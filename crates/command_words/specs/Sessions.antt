-- The list of sessions on the command line, this project's own format: the names of the venues'
-- first sessions in order, separated by commas. Of a packet capture it also has the sessions that
-- follow a venue's first one, each after a slash.
use Rattle.std.specs.Prelude.{ℕ, ◌-◌, Bool, ◌&&◌, nat_le, ◌==◌, if◌then◌else◌, List, ◌++◌, length, map, replicate, Result, Ok, Err}
use Rattle.std.specs.List.{before_first, list_all, slice_split}
use Rattle.command_words.specs.Readings.{Gives, OrNoMemory}
use Rattle.command_words.specs.declared.refusal.Refusal.{Refusal}
use Rattle.command_words.specs.declared.refusal.Refusal.TheVariants.{BadSession, TooManySessions}

-- the texts before, between and after the commas
abbrev pub names_in : List ℕ → List (List ℕ)
names_in list = slice_split (λ byte. byte == 44) list

-- printable ASCII, the space among it
abbrev pub is_session_byte : ℕ → Bool
is_session_byte byte = nat_le 32 byte && nat_le byte 126

abbrev pub is_session_name : List ℕ → Bool
is_session_name name =
    nat_le 1 (length name) && (nat_le (length name) 10 && list_all is_session_byte name)

-- the session of a name, as packets carry it: filled on the right with spaces to ten bytes
abbrev pub filled_name : List ℕ → List ℕ
filled_name name = name ++ replicate (10 - length name) 32

-- the sessions of these names; a wrong name is reported before that there are more than 16
abbrev pub sessions_by : List (List ℕ) → Result (List (List ℕ)) Refusal
sessions_by names =
    if list_all is_session_name names
    then (if nat_le (length names) 16 then Ok (map filled_name names) else Err TooManySessions)
    else Err BadSession

abbrev pub is_slash : ℕ → Bool
is_slash byte = byte == 47

-- the name of a venue's first session, where others may follow it after slashes, or may not
abbrev pub first_name : (chained : Bool) → List ℕ → List ℕ
first_name chained text = if chained then before_first is_slash text else text

abbrev pub ReadsSessions : (chained : Bool) → List ℕ → Result (List (List ℕ)) Refusal → Type 0
ReadsSessions chained list =
    OrNoMemory (Gives (sessions_by (map (first_name chained) (names_in list))))
