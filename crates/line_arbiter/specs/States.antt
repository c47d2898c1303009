-- The state of an arbiter: its venue and sessions, its cursors, and its wins. What it holds is seen
-- through `held_at` alone.
use Rattle.std.specs.Prelude.{◌≡◌, ℕ, ◌+◌, ◌==◌, List, [], ◌∷◌, ◌++◌, length, Option, Some, None, if◌then◌else◌}
use Rattle.feed_types.specs.declared.item.Item.{Item}
use Rattle.feed_types.specs.declared.item.Item.TheVariants as items
use Rattle.feed_types.specs.declared.item.Numbered.{Numbered}
use Rattle.line_arbiter.specs.declared.arbiter.ArbiterStatus.{ArbiterStatus}
use Rattle.feed_types.specs.declared.per_line.PerLine.{PerLine}
use Rattle.feed_types.specs.PerLines.{on_all}
use Rattle.line_arbiter.specs.Holding.{Held, held_at}

-- `sessions` are the names of the venue's sessions so far, the present one last; `earlier` has the
-- wins at the beginning of the present session
pub record State : Type 0 where
  pub venue : ℕ
  pub sessions : List (List ℕ)
  pub session : List ℕ
  pub window : ℕ
  pub sent : ℕ
  pub front : ℕ
  pub known : ℕ
  pub end : Option ℕ
  pub places : List (Option Item)
  pub wins : PerLine ℕ
  pub earlier : PerLine ℕ

-- the number of the present session: the first has ordinal 1
abbrev pub ordinal_of : State → ℕ
ordinal_of s = length s.sessions

abbrev pub held_of : State → Held
held_of s = record { base = s.sent; width = s.window; places = s.places }

-- the item after the last one sent, if it is there
abbrev pub next_from : ℕ → Option Item → Option ℕ → Option Numbered
next_from m (Some item) end = Some (record { number = m; item = item })
next_from m None None = None
next_from m None (Some e) =
    if e == m then Some (record { number = m; item = items.End }) else None

abbrev pub next_of : State → Option Numbered
next_of s = next_from (s.sent + 1) (held_at (held_of s) (s.sent + 1)) s.end

-- the cursors as a status shows them
pub record ShowsCursors (s : State) (status : ArbiterStatus) : Type 0 where
  pub sent : status.sent ≡ s.sent
  pub front : status.front ≡ s.front
  pub known : status.known ≡ s.known
  pub end : status.end ≡ s.end

-- nothing came yet of the present session, which has this name
pub record HasBegun (s : State) (name : List ℕ) : Type 0 where
  pub session : s.session ≡ name
  pub sent : s.sent ≡ 0
  pub front : s.front ≡ 0
  pub known : s.known ≡ 0
  pub end : s.end ≡ None

-- an arbiter that was given nothing
pub record IsNew (s : State) (place : ℕ) (name : List ℕ) (width : ℕ) : Type 0 where
  pub begun : HasBegun s name
  pub venue : s.venue ≡ place
  pub sessions : s.sessions ≡ name ∷ []
  pub window : s.window ≡ width
  pub wins : s.wins ≡ on_all 0
  pub earlier : s.earlier ≡ on_all 0

-- what every packet leaves: the venue, its sessions, the window and the wins of earlier sessions
pub record KeepsItsSession (old new : State) : Type 0 where
  pub venue : new.venue ≡ old.venue
  pub sessions : new.sessions ≡ old.sessions
  pub session : new.session ≡ old.session
  pub window : new.window ≡ old.window
  pub earlier : new.earlier ≡ old.earlier

-- what a packet leaves of which nothing is sent: the last item sent, too
pub record KeepsItsPlace (old new : State) : Type 0 where
  pub session : KeepsItsSession old new
  pub sent : new.sent ≡ old.sent

-- what an advance leaves: everything but the last item sent
pub record KeepsAllButSent (old new : State) : Type 0 where
  pub session : KeepsItsSession old new
  pub front : new.front ≡ old.front
  pub known : new.known ≡ old.known
  pub end : new.end ≡ old.end
  pub wins : new.wins ≡ old.wins

-- the next item was sent on
pub record IsAdvanced (old new : State) : Type 0 where
  pub sent : new.sent ≡ old.sent + 1
  pub kept : KeepsAllButSent old new

-- the next session has begun, of which nothing came yet; wins go on
pub record IsRenewed (old new : State) (name : List ℕ) : Type 0 where
  pub begun : HasBegun new name
  pub venue : new.venue ≡ old.venue
  pub sessions : new.sessions ≡ old.sessions ++ name ∷ []
  pub window : new.window ≡ old.window
  pub wins : new.wins ≡ old.wins
  pub earlier : new.earlier ≡ old.wins

-- messages were given up, so that the next item is Skipped, which has the number before `n`
pub record IsSkipped (old new : State) (n : ℕ) : Type 0 where
  pub venue : new.venue ≡ old.venue
  pub sessions : new.sessions ≡ old.sessions
  pub session : new.session ≡ old.session
  pub window : new.window ≡ old.window
  pub sent : new.sent + 2 ≡ n
  pub end : new.end ≡ old.end
  pub wins : new.wins ≡ old.wins
  pub earlier : new.earlier ≡ old.earlier
