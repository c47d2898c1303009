-- What a venue's lock guards.
use Rattle.std.specs.Prelude.{◌≡◌, ◌≢◌, ◌⊎◌, ℕ, ◌+◌, ◌≤◌, List, [], ◌∷◌, ◌++◌, take, flat_map, length, Some, None, slice_get}
use Rattle.std.specs.List.{AllByRecursion}
use Rattle.feed_types.specs.declared.item.Numbered.{Numbered}
use Rattle.feed_types.specs.declared.line.LineId.{LineId}
use Rattle.line_arbiter.specs.Packets.{Arrival, Input, Arrived, Skip}
use Rattle.line_arbiter.specs.Streams.{IsComplete, place_of, stream_of}
use Rattle.line_arbiter.specs.Answered.{AreAnswered}
use Rattle.line_arbiter.specs.Genuine.{IsGenuineIn}
use Rattle.line_arbiter.specs.Histories.{Begun, History, all_begun, items_of}
use Rattle.line_arbiter.specs.States.{State, ordinal_of}
use Rattle.line_arbiter.specs.Fits.{FitsHistory}
use Rattle.line_arbiter.specs.Pacing.{Pace}
use Rattle.fifo_lane.specs.Lane.{LaneEnd}
use Rattle.feed_types.specs.declared.genuine.Genuine.{Ghosts as Genuine}
use Rattle.feed_steps.specs.Lanes.{FeedLanes}
use Rattle.feed_types.specs.declared.per_line.PerLine.{PerLine}
use Rattle.feed_types.specs.PerLines.{on_line, on_all}
use Rattle.venue_lines.specs.Brought.{Brought, accepted_on, nothing_brought}

-- a venue's arbiter, the sending end of its lane, when it asked last for a gap, and what its lines
-- brought
pub record CellState : Type 0 where
  pub arbiter : State
  pub lane : LaneEnd Numbered
  pub pace : Pace
  pub brought : PerLine Brought

-- a gap is asked for again after this many milliseconds
abbrev pub new_pace : Pace
new_pace = record { interval = 250; seen = None; last = None }

-- the cell of an arbiter and a lane, where nothing came yet
abbrev pub new_cell : State → LaneEnd Numbered → CellState
new_cell arbiter lane =
    record { arbiter = arbiter; lane = lane; pace = new_pace; brought = on_all nothing_brought }

-- what arrived, as a list of one; a skip is none
abbrev pub arrived_in : Input → List Arrival
arrived_in (Arrived a) = a ∷ []
arrived_in (Skip n) = []

-- all packets of a session
abbrev pub arrived_of : List Input → List Arrival
arrived_of packets = flat_map (λ x. arrived_in x) packets

-- all packets that a venue was given, in all its sessions
abbrev pub arrivals_of : List Begun → List Arrival
arrivals_of sessions = flat_map (λ session. arrived_of session.packets) sessions

-- The cell represents this history: its arbiter fits the history, the lane was sent the streams of
-- the earlier sessions and then the first items of the present one's, and the packets that were
-- accepted on each line are those of all packets.
pub record CellFitsHistory (c : CellState) (h : History) : Type 0 where
  pub history : FitsHistory c.arbiter h
  pub sent : c.lane.items
      ≡ items_of h.earlier
      ++ take (place_of h.present.packets c.arbiter.sent) (stream_of h.present.packets)
  pub accepted : (line : LineId)
      → (on_line line c.brought).accepted ≡ accepted_on line (arrivals_of (all_begun h))

module _ {S : Type 0} (premise : Genuine S) (venue window : ℕ) where
  -- A session as it was brought: each packet was answered by the definitions (so one with an
  -- outcome is of the session), and each that is of the session is genuine; and each skip could be
  -- made.
  pub record AreGiven (ordinal : ℕ) (b : Begun) : Type 0 where
    pub answered : AreAnswered b.name window b.packets
    pub genuine : AllByRecursion
        (λ x. IsGenuineIn premise.carries premise.ends venue ordinal b.name x) b.packets

  -- the same of the sessions from this ordinal on, and all but the present one are over
  abbrev pub AreGivenFrom : ℕ → List Begun → Begun → Type 0
  AreGivenFrom ordinal [] present = AreGiven ordinal present
  AreGivenFrom ordinal (b ∷ bs) present =
      AreGiven ordinal b × IsComplete b.packets × AreGivenFrom (ordinal + 1) bs present

-- What holds whenever a venue's lock is free: there are packets that the venue was given, session
-- by session, and the cell represents them; each was answered by the definitions and is genuine;
-- the present session has a name that the lines may use; the lane is the one that the feed has for
-- the venue; and window and lane have the sizes of the feed's setting.
pub record VenueLockInvariant {S : Type 0} (premise : Genuine S)
    (lanes : FeedLanes) (c : CellState) : Type 0 where
  pub history : History
  pub fits : CellFitsHistory c history
  pub given : AreGivenFrom premise c.arbiter.venue c.arbiter.window 1
      history.earlier history.present
  pub named : premise.sessions c.arbiter.venue (ordinal_of c.arbiter) c.arbiter.session
  pub tag : c.lane.tag ≡ c.arbiter.venue
  pub lane : slice_get lanes.venues c.arbiter.venue ≡ Some c.lane.lane
  pub window : c.arbiter.window ≡ lanes.setting.window
  pub capacity : c.lane.capacity ≡ lanes.setting.lane

-- The section is possible: there are two cells of the venue that its lock may keep, and it leads
-- from the one to the other. Outside of the lock nothing is known of its cell, so this says which
-- answers may come, and not that these two were the lock's own.
pub record IsPossibleAtVenue {S : Type 0} (premise : Genuine S)
    (lanes : FeedLanes) (venue : ℕ) (section : CellState → CellState → Type 0) : Type 0 where
  pub old : CellState
  pub kept : VenueLockInvariant premise lanes old
  pub venue_is : old.arbiter.venue ≡ venue
  pub new : CellState
  pub keeps : VenueLockInvariant premise lanes new
  pub leads : section old new

-- The call may have met another venue's lock, though no run does: there is a cell of such a venue.
pub record MayMeetAnother {S : Type 0} (premise : Genuine S)
    (lanes : FeedLanes) (venue : ℕ) : Type 0 where
  pub cell : CellState
  pub kept : VenueLockInvariant premise lanes cell
  pub other : cell.arbiter.venue ≢ venue

-- The call may have met no lock of this venue: the feed has no such venue, or has another one.
abbrev pub MayMeetNoLock : {S : Type 0} → Genuine S → FeedLanes → ℕ → Type 0
MayMeetNoLock premise lanes venue =
    (length lanes.venues ≤ venue) ⊎ MayMeetAnother premise lanes venue

-- The section is possible at the venue; or the call may have met no lock of it, and the answer is
-- this.
abbrev pub IsPossibleCall : {S : Type 0} → Genuine S → FeedLanes → ℕ
    → (CellState → CellState → Type 0) → Type 0 → Type 0
IsPossibleCall premise lanes venue section answer =
    IsPossibleAtVenue premise lanes venue section ⊎ (MayMeetNoLock premise lanes venue × answer)
