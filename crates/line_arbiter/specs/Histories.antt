-- The history of one venue: its sessions, those that are over and the present one.
use Rattle.std.specs.Prelude.{ℕ, List, [], ◌∷◌, ◌++◌, Result, Ok, Err, map, flat_map, sum_by}
use Rattle.feed_types.specs.declared.item.Numbered.{Numbered}
use Rattle.feed_types.specs.declared.line.LineId.{LineId}
use Rattle.line_arbiter.specs.declared.faults.RenewFault.{RenewFault}
use Rattle.line_arbiter.specs.declared.faults.SkipFault.{SkipFault}
use Rattle.line_arbiter.specs.Packets.{Input, Skip}
use Rattle.line_arbiter.specs.Streams.{stream_of, wins_of}

-- a session that a venue has begun: its name, its packets that came, each with its line and its
-- answer, and skips
pub record Begun : Type 0 where
  pub name : List ℕ
  pub packets : List Input

-- a venue's sessions: those that are over, and the present one
pub record History : Type 0 where
  pub earlier : List Begun
  pub present : Begun

-- nothing came yet of the session of this name
abbrev pub new_session : List ℕ → Begun
new_session name = record { name = name; packets = [] }

-- a venue to which nothing came, with the name of its first session
abbrev pub new_history : List ℕ → History
new_history name = record { earlier = []; present = new_session name }

-- all sessions of the venue, the present one last
abbrev pub all_begun : History → List Begun
all_begun h = h.earlier ++ h.present ∷ []

-- the names of its sessions, the present one last
abbrev pub names_of : History → List (List ℕ)
names_of h = map (λ session. session.name) (all_begun h)

-- the streams of these sessions, one after another
abbrev pub items_of : List Begun → List Numbered
items_of sessions = flat_map (λ session. stream_of session.packets) sessions

-- the streams of all its sessions, one after another
abbrev pub streams_of : History → List Numbered
streams_of h = items_of (all_begun h)

-- how many numbers came first on the line, in all these sessions
abbrev pub wins_in : List Begun → LineId → ℕ
wins_in sessions line = sum_by (λ session. wins_of session.packets line) sessions

-- one more packet of the present session came, or a skip
abbrev pub after_input : History → Input → History
after_input h x =
    record h { present = record h.present { packets = h.present.packets ++ x ∷ [] } }

-- the history after a skip to the number with this answer
abbrev pub skip_after : History → ℕ → Result (Unit {0}) SkipFault → History
skip_after old number (Ok _) = after_input old (Skip number)
skip_after old number (Err fault) = old

-- the present session is over, and this one begins
abbrev pub after_renewal : History → List ℕ → History
after_renewal h name = record { earlier = all_begun h; present = new_session name }

-- the history after a renewal with this answer
abbrev pub history_after : History → List ℕ → Result ℕ RenewFault → History
history_after old name (Ok ordinal) = after_renewal old name
history_after old name (Err fault) = old
