-- Sessions that are named to follow a venue's first one: each begins at the first packet that comes
-- of it once the session before is over, in the section that takes the packet.
use Rattle.std.specs.Prelude.{◌≡◌, ℕ, ◌+◌, ◌-◌, ◌==◌, Bool, true, false, List, Option, Some, None, Ok, [], slice_get, if◌then◌else◌}
use Rattle.feed_types.specs.Sessions.{SessionNames}
use Rattle.mold_packet.specs.Content.{Content}
use Rattle.line_arbiter.specs.Histories.{History, names_of}
use Rattle.line_arbiter.specs.Packets.{end_of}
use Rattle.line_arbiter.specs.Renewals.{IsRenewal}
use Rattle.line_arbiter.specs.States.{ordinal_of}
use Rattle.feed_steps.specs.Lanes.{FeedLanes}
use Rattle.venue_lines.specs.Cells.{CellState, CellFitsHistory}
use Rattle.venue_lines.specs.Sections.{BeginsNext, RenewsSession}

-- a venue, and the names of the sessions that follow its first one, in order
pub record NextNames : Type 0 where
  pub venue : ℕ
  pub names : List (List ℕ)

-- the lines may use these names for the venue's sessions from the second on, in order
abbrev pub AreNextNames : SessionNames → ℕ → List (List ℕ) → Type 0
AreNextNames sessions venue names =
    (place : ℕ) (name : List ℕ) → slice_get names place ≡ Some name
    → sessions venue (place + 2) name

-- the name of the session that follows the one of this ordinal at the venue, if one does
abbrev pub name_after : NextNames → ℕ → ℕ → Option (List ℕ)
name_after next venue ordinal =
    if next.venue == venue then slice_get next.names (ordinal - 1) else None

-- the names of the sessions that follow this venue's first one, in order, if any are named for it
abbrev pub names_at : ℕ → Option NextNames → List (List ℕ)
names_at venue (Some next) = if next.venue == venue then next.names else []
names_at venue None = []

-- these are the sessions that the feed has for their venue
abbrev pub AreOfFeed : FeedLanes → NextNames → Type 0
AreOfFeed lanes next = slice_get lanes.next next.venue ≡ Some next.names

-- The packet is of the session that is named to follow the venue's present one, which is over, and
-- all of it was sent: a renewal under this name would begin the one of this ordinal.
pub record RenewsAt (next : NextNames) (c : CellState) (h : History) (p : Content) : Type 0
  where
    pub follows : name_after next c.arbiter.venue (ordinal_of c.arbiter) ≡ Some p.session
    pub ordinal : ℕ
    pub renews : IsRenewal (names_of h) (end_of h.present.packets) c.arbiter.sent p.session
        (Ok ordinal)

-- it does, and the session has begun
pub record BeginsBefore (next : NextNames) (p : Content) (h : History) (old new : CellState)
    : Type 0 where
  pub before : RenewsAt next old h p
  pub renewed : RenewsSession p.session (Ok before.ordinal) h old new
  pub begun : BeginsNext old new

-- Renew, and whether it was done: where the packet is of the next session and the present one is
-- over, that begins; else nothing.
abbrev pub RenewsOrKeeps : NextNames → Content → (renewed : Bool) → History → CellState → CellState
    → Type 0
RenewsOrKeeps next p true h old new = BeginsBefore next p h old new
RenewsOrKeeps next p false h old new = (RenewsAt next old h p → ⊥) × (new ≡ old)

-- the same for every history that the cell represents
abbrev pub RenewsFirst : NextNames → Content → (renewed : Bool) → CellState → CellState → Type 0
RenewsFirst next p renewed old new =
    (h : History) → CellFitsHistory old h → RenewsOrKeeps next p renewed h old new

-- the same only where sessions are named to follow; else nothing changes
abbrev pub RenewsIf : Option NextNames → Content → (renewed : Bool) → CellState → CellState
    → Type 0
RenewsIf (Some next) p renewed old new = RenewsFirst next p renewed old new
RenewsIf None p renewed old new = (renewed ≡ false) × (new ≡ old)
