-- A session that is joined at the first packet that comes of it: what is missing before the packet
-- is given up first, in the section that takes it.
use Rattle.std.specs.Prelude.{◌≡◌, ℕ, ◌+◌, ◌-◌, ◌<◌, ◌≤◌, Bool, true, false, List, Option, Some, None, IfSome, Result, Ok, Err}
use Rattle.feed_types.specs.declared.line.LineId.{LineId}
use Rattle.mold_packet.specs.Content.{Content, Spells, last_number}
use Rattle.mold_packet.specs.Faults.{HasFault}
use Rattle.mold_packet.specs.declared.packet.Kind.{Kind}
use Rattle.mold_packet.specs.declared.packet.Kind.TheVariants as kinds
use Rattle.line_arbiter.specs.declared.outcome.Outcome.{Outcome}
use Rattle.line_arbiter.specs.declared.outcome.LineFault.{LineFault}
use Rattle.line_arbiter.specs.declared.outcome.LineFault.TheVariants.{OtherSession}
use Rattle.line_arbiter.specs.Counts.{shown}
use Rattle.line_arbiter.specs.Histories.{History}
use Rattle.line_arbiter.specs.Packets.{end_of}
use Rattle.line_arbiter.specs.Streams.{front_of, held_count}
use Rattle.feed_types.specs.declared.genuine.Genuine.{Ghosts as Genuine}
use Rattle.feed_steps.specs.Lanes.{FeedLanes}
use Rattle.venue_lines.specs.declared.faults.TakeFault.{TakeFault}
use Rattle.venue_lines.specs.declared.faults.TakeFault.TheVariants as faults
use Rattle.venue_lines.specs.Cells.{CellState, CellFitsHistory, IsPossibleCall}
use Rattle.venue_lines.specs.NextSessions.{AreOfFeed, NextNames, RenewsIf}
use Rattle.venue_lines.specs.Seats.{SeatState}
use Rattle.venue_lines.specs.Sections.{GoesOnFrom, SkipsGap, TakesAndPushesReady}

-- a packet of this kind, with this number and this last number, lies before an announced end, or is
-- that end
abbrev pub StaysWithin : Option ℕ → Kind → ℕ → ℕ → Type 0
StaysWithin None kind number last = Unit {0}
StaysWithin (Some end) kinds.Messages number last = last < end
StaysWithin (Some end) kinds.Heartbeat number last = number ≤ end
StaysWithin (Some end) kinds.End number last = number ≡ end

-- No message of the present session was taken or given up, of which `sent` items were sent, and
-- the packet is of that session, begins past its first message, and isn't past its end.
pub record BeginsPast (h : History) (sent : ℕ) (p : Content) : Type 0 where
  pub front : front_of h.present.packets ≡ 0
  pub held : held_count sent h.present.packets ≡ 0
  pub session : p.session ≡ h.present.name
  pub missing : 1 < p.number
  pub within : StaysWithin (end_of h.present.packets) p.kind p.number (last_number p)

-- Join, and whether it was done: where the packet begins the session past its first message, a skip
-- to the packet's number; else nothing.
abbrev pub JoinsOrStays : Content → (joined : Bool) → History → CellState → CellState → Type 0
JoinsOrStays p true h old new =
    BeginsPast h old.arbiter.sent p × SkipsGap p.number (Ok tt) h old new
    × GoesOnFrom p.number old new
JoinsOrStays p false h old new = (BeginsPast h old.arbiter.sent p → ⊥) × (new ≡ old)

-- the same for every history that the cell represents
abbrev pub JoinsFirst : Content → (joined : Bool) → CellState → CellState → Type 0
JoinsFirst p joined old new =
    (h : History) → CellFitsHistory old h → JoinsOrStays p joined h old new

-- the same only where it is asked for; else nothing changes
abbrev pub JoinsIf : (join : Bool) → Content → (joined : Bool) → CellState → CellState → Type 0
JoinsIf true p joined old new = JoinsFirst p joined old new
JoinsIf false p joined old new = (joined ≡ false) × (new ≡ old)

-- Join, where it is asked for, then Packet, and then Push, again and again, in one section.
pub record JoinsAndTakes (join : Bool) (line : LineId) (p : Content) (joined : Bool)
    (answer : Result Outcome LineFault) (old new : CellState) : Type 0 where
  pub first : CellState
  pub joins : JoinsIf join p joined old first
  pub takes : TakesAndPushesReady line p answer first new

-- Renew, where sessions are named to follow, and then the same.
pub record RenewsAndTakes (next : Option NextNames) (join : Bool) (line : LineId) (p : Content)
    (renewed joined : Bool) (answer : Result Outcome LineFault) (old new : CellState) : Type 0
  where
    pub begun : CellState
    pub renews : RenewsIf next p renewed old begun
    pub takes : JoinsAndTakes join line p joined answer begun new

-- The answer to a packet where these sessions are named to follow, and sessions are joined, or
-- aren't: one that a cell of the seat's venue gives in such a section; or OtherSession, where the
-- call met no lock of that venue.
abbrev pub IsAnsweredNext : {S : Type 0} → Genuine S → FeedLanes → Option NextNames
    → (join : Bool) → SeatState → Content → Result Outcome LineFault → Type 0
IsAnsweredNext premise lanes next join seat p answer =
    IsPossibleCall premise lanes seat.venue
    (λ old new. (renewed : Bool) × (joined : Bool)
    × RenewsAndTakes next join seat.line p renewed joined answer old new)
    (answer ≡ Err OtherSession)

-- The same, where the sessions that are named to follow are those of the feed: the venue's lock
-- keeps them.
abbrev pub IsAnsweredJoining : {S : Type 0} → Genuine S → FeedLanes → (join : Bool) → SeatState
    → Content → Result Outcome LineFault → Type 0
IsAnsweredJoining premise lanes join seat p answer =
    IsPossibleCall premise lanes seat.venue
    (λ old new. (next : Option NextNames) × IfSome next (AreOfFeed lanes) × (renewed : Bool)
    × (joined : Bool) × RenewsAndTakes next join seat.line p renewed joined answer old new)
    (answer ≡ Err OtherSession)

-- The same of a datagram that is a packet.
pub record IsPacketJoining {S : Type 0} (premise : Genuine S) (lanes : FeedLanes) (join : Bool)
    (bytes : List ℕ) (seat : SeatState) (answer : Result Outcome LineFault) : Type 0 where
  pub packet : Content
  pub rest : List ℕ
  pub spells : Spells bytes packet rest
  pub answered : IsAnsweredJoining premise lanes join seat packet answer

-- The same of any datagram: at one that is no packet nothing is joined.
abbrev pub TakesJoining : {S : Type 0} → Genuine S → FeedLanes → (join : Bool) → List ℕ
    → SeatState → Result Outcome TakeFault → Type 0
TakesJoining premise lanes join bytes seat (Ok outcome) =
    IsPacketJoining premise lanes join bytes seat (Ok outcome)
TakesJoining premise lanes join bytes seat (Err (faults.Line fault)) =
    IsPacketJoining premise lanes join bytes seat (Err fault)
TakesJoining premise lanes join bytes seat (Err (faults.Packet fault)) = HasFault bytes fault

-- the count of the messages that were given up where sessions were joined, after this was done or
-- not at a packet of this number, as a u64 shows it
abbrev pub before_join_after : (joined : Bool) → ℕ → ℕ → ℕ
before_join_after true number before = shown (before + (number - 1))
before_join_after false number before = before
