-- The sessions that come at a venue and aren't its first: what is seen of them, the rows of that,
-- and what is said of them at the end.
use Rattle.std.specs.Prelude.{ℕ, ◌+◌, ◌==◌, Bool, true, false, ◌&&◌, nat_lt, nat_le, List, [], ◌∷◌, ◌++◌, codes, decimal, flat_map, length, map, take, slice_get, Option, None, Some, if◌then◌else◌}
use Rattle.std.specs.List.{list_any, sum_by}
use Rattle.std.specs.Str.{bytes_eq}
use Rattle.capture_records.specs.declared.record_format.Step.{Step}
use Rattle.capture_records.specs.declared.record_format.Step.TheVariants.{Came}
use Rattle.capture_records.specs.Capture.{CaptureRecord, datagram_record, record_of, renewal_record}
use Rattle.capture_records.specs.Formats.{TimedRecord}
use Rattle.line_discovery.specs.KeyedRows.{Keying, keyed_rows}
use Rattle.line_discovery.specs.Tables.{up_to_most}
use Rattle.run_notes.specs.SessionNames.{name_texts}
use Rattle.run_settings.specs.declared.next_session.NextSession.{NextSession}
use Rattle.nbbo_runs.specs.NamedSessions.{never_begins}
use Rattle.nbbo_runs.specs.declared.session_row.SessionRow.{SessionRow}
use Rattle.nbbo_runs.specs.declared.session_row.SessionSighting.{SessionSighting}
use Rattle.nbbo_runs.specs.declared.session_row.VenueSession.{VenueSession}

-- ---- what is seen

-- the name of the session in a datagram that is long enough for a packet's header
abbrev pub name_in : List ℕ → Option (List ℕ)
name_in bytes = if nat_lt (length bytes) 20 then None else Some (take 10 bytes)

abbrev pub sighting_of : ℕ → List ℕ → Bool → SessionSighting
sighting_of venue name is_renewal =
    record { session = record { venue = venue; name = name }; is_renewal = is_renewal }

-- the sessions that follow the venues' first ones by the words are named from the start on
abbrev pub named_sightings : List NextSession → List SessionSighting
named_sightings next = map (λ n. sighting_of n.venue n.name true) next

-- whether the venue's first session has this name, where there is such a venue
abbrev pub is_first : Option (List ℕ) → List ℕ → Bool
is_first None name = false
is_first (Some first) name = bytes_eq first name

-- what a datagram with this name in it shows of another session than the venue's first
abbrev pub datagram_sightings : ℕ → Option (List ℕ) → Option (List ℕ) → List SessionSighting
datagram_sightings venue first None = []
datagram_sightings venue first (Some name) =
    if is_first first name then [] else sighting_of venue name false ∷ []

-- what a record shows of such sessions, where the venues' first ones have these names
abbrev pub sightings_in : List (List ℕ) → CaptureRecord → List SessionSighting
sightings_in sessions (datagram_record venue line bytes) =
    datagram_sightings venue (slice_get sessions venue) (name_in bytes)
sightings_in sessions (renewal_record venue name) = sighting_of venue name true ∷ []
sightings_in sessions _ = []

-- and what records do
abbrev pub sightings_of : List (List ℕ) → List TimedRecord → List SessionSighting
sightings_of sessions records = flat_map (λ r. sightings_in sessions r.what) records

-- what was seen after a step
abbrev pub sighted_by : {F : Type 0} → List (List ℕ) → List SessionSighting → Step F
    → List SessionSighting
sighted_by sessions seen (Came len time r) = seen ++ sightings_in sessions (record_of r)
sighted_by sessions seen _ = seen

-- ---- the rows

-- the same venue and name
abbrev pub is_same_session : VenueSession → VenueSession → Bool
is_same_session a b = (a.venue == b.venue) && bytes_eq a.name b.name

abbrev pub datagrams_in : Bool → ℕ
datagrams_in true = 0
datagrams_in false = 1

-- what came of a session, of which all this was seen: how many datagrams, and whether it is named
abbrev pub session_row_over : VenueSession → List SessionSighting → SessionRow
session_row_over session mine = record {
  session = session;
  datagrams = up_to_most (sum_by (λ s. datagrams_in s.is_renewal) mine);
  is_named = list_any (λ s. s.is_renewal) mine;
}

-- rows by session, of the first 64
abbrev pub by_session : Keying SessionSighting VenueSession SessionRow
by_session = record {
  key_of = λ s. s.session;
  same = is_same_session;
  over = session_row_over;
  key_in = λ r. r.session;
  most = 64;
}

abbrev pub session_rows : List SessionSighting → List SessionRow
session_rows seen = keyed_rows by_session seen

-- ---- what is said

abbrev pub datagrams_text : ℕ → List ℕ
datagrams_text count =
    if count == 1 then codes " datagram of session " else codes " datagrams of session "

abbrev pub refused_texts : ℕ → ℕ → List (List ℕ)
refused_texts venue count =
    codes "nbbo: venue " ∷ decimal venue ∷ codes " refused " ∷ decimal count
    ∷ datagrams_text count ∷ []

abbrev pub unnamed_end : List ℕ
unnamed_end = codes ", which isn't named\n"

abbrev pub never_begun_end : List ℕ
never_begun_end = codes ", which never began: the one before it wasn't over\n"

-- how many datagrams of a session were refused, and then why
abbrev pub row_texts : (why : List ℕ) → SessionRow → List (List ℕ)
row_texts why r =
    refused_texts r.session.venue r.datagrams ++ (name_texts r.session.name ++ why ∷ [])

-- of a session that is named, if it came and never began
abbrev pub named_texts : (never_begins : Bool) → SessionRow → List (List ℕ)
named_texts never_begins r =
    if nat_lt 0 r.datagrams && never_begins then row_texts never_begun_end r else []

-- of a session, where these were named to follow, and the venues' last ones have these ordinals
abbrev pub session_texts : List NextSession → (ordinals : List ℕ) → SessionRow → List (List ℕ)
session_texts next ordinals r =
    if r.is_named then named_texts (never_begins next ordinals r.session) r
    else row_texts unnamed_end r

-- that there are as many rows as can be
abbrev pub full_texts : ℕ → List (List ℕ)
full_texts rows =
    if nat_le 64 rows then codes "nbbo: sessions after the first 64 aren't counted\n" ∷ [] else []

abbrev pub sessions_texts : List NextSession → (ordinals : List ℕ) → List SessionRow
    → List (List ℕ)
sessions_texts next ordinals rows =
    flat_map (session_texts next ordinals) rows ++ full_texts (length rows)

-- ---- one thing more. Only private clauses cite this part.

abbrev pub first_row : VenueSession → SessionRow
first_row session = session_row_over session []

-- what is counted of a session with a renewal of it more, or with a datagram
abbrev pub row_counted : Bool → SessionRow → SessionRow
row_counted true r = record r { is_named = true }
row_counted false r = record r { datagrams = up_to_most (r.datagrams + 1) }

abbrev pub with_sighting : SessionSighting → SessionRow → SessionRow
with_sighting s r = row_counted s.is_renewal r
