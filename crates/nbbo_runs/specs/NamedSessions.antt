-- Which of the sessions that were named to follow a venue's first one begin in a replay.
use Rattle.std.specs.Prelude.{ℕ, ◌-◌, Bool, List, [], ◌∷◌, drop, replicate, slice_index_or, slice_set, Ok}
use Rattle.std.specs.List.{list_any}
use Rattle.std.specs.Str.{bytes_eq}
use Rattle.run_settings.specs.NextSessions.{names_after}
use Rattle.event_sinks.specs.SinkEvents.{SinkEvent, TimedEvent, told_renewal}
use Rattle.run_settings.specs.declared.next_session.NextSession.{NextSession}
use Rattle.nbbo_runs.specs.declared.session_row.VenueSession.{VenueSession}

-- the ordinals of the venues' present sessions, before any has followed
abbrev pub first_ordinals : List ℕ
first_ordinals = replicate 16 1

-- a session of the venue begins where a renewal is answered with its ordinal
abbrev pub ordinals_with : List ℕ → SinkEvent → List ℕ
ordinals_with ordinals (told_renewal venue (Ok ordinal)) = slice_set ordinals venue ordinal
ordinals_with ordinals _ = ordinals

abbrev pub ordinals_after : List ℕ → List TimedEvent → List ℕ
ordinals_after ordinals [] = ordinals
ordinals_after ordinals (e ∷ told) = ordinals_after (ordinals_with ordinals e.event) told

-- Whether a session is named to follow, and never begins, where the venues' last sessions have
-- these ordinals: of the names that follow the venue's first session, one less than the ordinal
-- have begun.
abbrev pub never_begins : List NextSession → List ℕ → VenueSession → Bool
never_begins next ordinals session =
    list_any (bytes_eq session.name)
    (drop (slice_index_or ordinals session.venue 1 - 1) (names_after session.venue next))
