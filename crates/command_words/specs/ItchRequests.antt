-- The venues in ITCH that --itch names, and how that is read.
use Rattle.std.specs.Prelude.{◌≡◌, ℕ, ◌+◌, ◌==◌, ◌&&◌, not, Bool, List, [], ◌∷◌, ◌++◌, count_by, map, Option, Some, None, Result, Ok, Err, codes, if◌then◌else◌}
use Rattle.std.specs.List.{list_all}
use Rattle.std.specs.Str.{bytes_eq}
use Rattle.clap.specs.Walk.{Row, Text, first_of, one_of}
use Rattle.run_settings.specs.declared.itch_settings.ItchSettings.{ItchSettings}
use Rattle.command_words.specs.EndNumbers.{end_number_in}
use Rattle.command_words.specs.NextSessions.{are_once}
use Rattle.command_words.specs.NormaliseRequests.{orders_in}
use Rattle.command_words.specs.Readings.{Gives, OrNoMemory, Then, Yields}
use Rattle.command_words.specs.Sessions.{filled_name, is_session_name, names_in}
use Rattle.command_words.specs.declared.refusal.Refusal.{Refusal}
use Rattle.command_words.specs.declared.refusal.Refusal.TheVariants.{ItchTwice, UnknownItch}

-- the name is that of one of the sessions
abbrev pub is_among : (sessions : List (List ℕ)) → List ℕ → Bool
is_among sessions name = not (count_by (bytes_eq name) sessions == 0)

-- the venues whose first sessions have one of these names, where the sessions are those of the
-- venues from this one on
abbrev pub itch_venues_from : ℕ → (names sessions : List (List ℕ)) → List ℕ
itch_venues_from venue names [] = []
itch_venues_from venue names (session ∷ sessions) =
    (if is_among names session then venue ∷ [] else [])
    ++ itch_venues_from (venue + 1) names sessions

-- The venues whose first sessions have these names; a name that is no venue's is reported before
-- one that is there twice.
abbrev pub itch_by : (names sessions : List (List ℕ)) → Result (List ℕ) Refusal
itch_by names sessions =
    if list_all is_session_name names && list_all (is_among sessions) (map filled_name names)
    then (if are_once (map filled_name names)
    then Ok (itch_venues_from 0 (map filled_name names) sessions) else Err ItchTwice)
    else Err UnknownItch

-- the venues that a list names, none where none is given
abbrev pub ReadsItchVenues : Option Text → (sessions : List (List ℕ)) → Result (List ℕ) Refusal
    → Type 0
ReadsItchVenues None sessions = Gives (Ok [])
ReadsItchVenues (Some list) sessions = OrNoMemory (Gives (itch_by (names_in list) sessions))

-- Which venues are in ITCH, of these first sessions, and how that is read: the names are looked at
-- first, then the rule for the number of an end.
abbrev pub ReadsItch : List Row → (sessions : List (List ℕ)) → Result ItchSettings Refusal → Type 0
ReadsItch rows sessions =
    Then (ReadsItchVenues (first_of (codes "itch") rows) sessions)
    (λ venues. Then (Gives (end_number_in (first_of (codes "end-number") rows)))
    (λ end_number. Yields (λ itch. (itch.venues.items ≡ venues)
    × (itch.end_number ≡ end_number)
    × (itch.orders ≡ orders_in (one_of (codes "orders") rows)))))
