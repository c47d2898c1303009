-- The files of snapshots that --snapshot names, each as VENUE=FILE: VENUE is the name of a venue's
-- first session, and the first = ends it.
use Rattle.std.specs.Prelude.{ℕ, ◌<◌, Bool, ◌==◌, nat_lt, if◌then◌else◌, is_some, List, count_by, length, option_map, Option, None, Some, Result, Ok, Err, string_bytes}
use Rattle.std.specs.List.{All, after_first, before_first, filter_map, list_all, position_or_len}
use Rattle.std.specs.Str.{bytes_eq}
use Rattle.command_words.specs.Readings.{Gives, OrNoMemory}
use Rattle.command_words.specs.Sessions.{filled_name, is_session_name}
use Rattle.command_words.specs.declared.refusal.Refusal.{Refusal}
use Rattle.command_words.specs.declared.refusal.Refusal.TheVariants.{BadSnapshot, SnapshotTwice, UnknownSnapshot}
use Rattle.command_words.specs.declared.snapshot_file.SnapshotFile.{SnapshotFile}

-- a venue, and the name of the file with its snapshot
abbrev pub VenueFile : Type 0
VenueFile = ℕ × List ℕ

abbrev pub named_by : SnapshotFile → VenueFile
named_by file = (file.venue, string_bytes file.name)

-- each is of one of the first `venues` venues
abbrev pub SnapshotsOfVenues : ℕ → List SnapshotFile → Type 0
SnapshotsOfVenues venues files = All (λ (file : SnapshotFile). file.venue < venues) files

abbrev pub is_equals_sign : ℕ → Bool
is_equals_sign byte = byte == 61

abbrev pub session_named : List ℕ → List ℕ
session_named text = before_first is_equals_sign text

abbrev pub file_of : List ℕ → List ℕ
file_of text = after_first is_equals_sign text

-- something stands after an =
abbrev pub names_file : List ℕ → Bool
names_file text = nat_lt 0 (length (file_of text))

-- the first place at which this session is one of these
abbrev pub session_place : (sessions : List (List ℕ)) → List ℕ → Option ℕ
session_place sessions session =
    if nat_lt (position_or_len (bytes_eq session) sessions) (length sessions)
    then Some (position_or_len (bytes_eq session) sessions) else None

-- the venue that a text names, of those with these first sessions
abbrev pub venue_named : (sessions : List (List ℕ)) → List ℕ → Option ℕ
venue_named sessions text =
    if is_session_name (session_named text)
    then session_place sessions (filled_name (session_named text)) else None

-- the file that a text names for its venue
abbrev pub file_by : (sessions : List (List ℕ)) → List ℕ → Option VenueFile
file_by sessions text = option_map (λ venue. (venue, file_of text)) (venue_named sessions text)

abbrev pub files_of : (sessions texts : List (List ℕ)) → List VenueFile
files_of sessions texts = filter_map (file_by sessions) texts

-- each venue stands there once
abbrev pub venues_once : List VenueFile → Bool
venues_once files = list_all (λ file. count_by (λ other. other.0 == file.0) files == 1) files

-- The files that these texts name for venues with these first sessions. A text that names none is
-- reported first, then a name that is no venue's, then a venue that is there twice.
abbrev pub snapshots_by : (texts sessions : List (List ℕ)) → Result (List VenueFile) Refusal
snapshots_by texts sessions =
    if list_all names_file texts
    then (if list_all (λ text. is_some (venue_named sessions text)) texts
    then (if venues_once (files_of sessions texts) then Ok (files_of sessions texts)
    else Err SnapshotTwice)
    else Err UnknownSnapshot)
    else Err BadSnapshot

abbrev pub ReadsSnapshots : (texts sessions : List (List ℕ)) → Result (List VenueFile) Refusal
    → Type 0
ReadsSnapshots texts sessions = OrNoMemory (Gives (snapshots_by texts sessions))
