-- The sessions that follow a venue's first one in the list of --sessions, where it may have such:
-- each stands after a slash, as in NORTH/NORTH2,SOUTH.
use Rattle.std.specs.Prelude.{ℕ, ◌+◌, Bool, ◌&&◌, nat_le, ◌==◌, if◌then◌else◌, List, [], ◌∷◌, ◌++◌, count_by, drop, length, map, take, true, false, Result, Ok, Err}
use Rattle.std.specs.List.{list_all, slice_split}
use Rattle.std.specs.Str.{bytes_eq}
use Rattle.run_settings.specs.declared.next_session.NextSession.{NextSession}
use Rattle.command_words.specs.Readings.{Gives, OrNoMemory, and_then, mapped}
use Rattle.command_words.specs.Sessions.{filled_name, is_session_name, is_slash, names_in}
use Rattle.command_words.specs.declared.refusal.Refusal.{Refusal}
use Rattle.command_words.specs.declared.refusal.Refusal.TheVariants.{BadNextSession}

-- the names of one venue's sessions: the texts before, between and after the slashes
abbrev pub chain_in : List ℕ → List (List ℕ)
chain_in text = slice_split is_slash text

-- each of the sessions stands there once
abbrev pub are_once : List (List ℕ) → Bool
are_once sessions = list_all (λ name. count_by (bytes_eq name) sessions == 1) sessions

-- at most 64 names, and no session twice
abbrev pub is_chain : List (List ℕ) → Bool
is_chain names =
    nat_le (length names) 64
    && (list_all is_session_name names && are_once (map filled_name names))

-- the sessions of one venue, the first one among them
abbrev pub chain_of : List (List ℕ) → Result (List (List ℕ)) Refusal
chain_of names = if is_chain names then Ok (map filled_name names) else Err BadNextSession

abbrev pub named_next : ℕ → List (List ℕ) → List NextSession
named_next venue names = map (λ name. record { venue = venue; name = name }) names

-- those after the first one
abbrev pub next_session_of : ℕ → List (List ℕ) → List NextSession
next_session_of venue sessions = named_next venue (drop 1 sessions)

-- the next sessions of venues, from this one on, by the texts of the venues
abbrev pub next_sessions_from : ℕ → List (List ℕ) → Result (List NextSession) Refusal
next_sessions_from venue [] = Ok []
next_sessions_from venue (text ∷ texts) =
    and_then (chain_of (chain_in text))
    (λ sessions. mapped (λ more. next_session_of venue sessions ++ more) (next_sessions_from
    (venue + 1) texts))

-- The next sessions of the first `venues` venues of the list, where others may follow a session;
-- else none.
abbrev pub ReadsNextSessions : (chained : Bool) → List ℕ → (venues : ℕ)
    → Result (List NextSession) Refusal → Type 0
ReadsNextSessions false list venues = Gives (Ok [])
ReadsNextSessions true list venues =
    OrNoMemory (Gives (next_sessions_from 0 (take venues (names_in list))))
