-- Each section under a lock is one event of the machine (feed_core), on the part that the lock
-- keeps.
use Rattle.std.specs.Prelude.{◌≡◌, ◌≢◌, ◌⊎◌, ℕ, ◌+◌, ◌-◌, ◌^◌, ◌≤◌, ◌<◌, Bool, true, false, List, length, slice_get, Option, None, Result, Ok, Err, IsOk, OnOk, OnErr}
use Rattle.feed_types.specs.declared.line.LineId.{LineId}
use Rattle.feed_types.specs.Sessions.{Session, IsSessionAt}
use Rattle.mold_packet.specs.Content.{Content}
use Rattle.mold_packet.specs.declared.packet.Kind.TheVariants as kinds
use Rattle.line_arbiter.specs.declared.outcome.Outcome.{Outcome}
use Rattle.line_arbiter.specs.declared.outcome.LineFault.{LineFault}
use Rattle.line_arbiter.specs.declared.outcome.LineFault.TheVariants.{OtherSession, EndTooEarly}
use Rattle.line_arbiter.specs.declared.faults.RenewFault.{RenewFault}
use Rattle.line_arbiter.specs.declared.faults.SkipFault.{SkipFault}
use Rattle.line_arbiter.specs.declared.faults.SkipFault.TheVariants.{ItemsReady, NothingMissing}
use Rattle.line_arbiter.specs.Packets.{first_of}
use Rattle.line_arbiter.specs.Histories.{History, streams_of}
use Rattle.line_arbiter.specs.OfSession.{IsOfSession}
use Rattle.line_arbiter.specs.InOrder.{IsNextPacket}
use Rattle.mold_packet.specs.declared.request.Request.{Request}
use Rattle.line_arbiter.specs.Pacing.{IsPaced}
use Rattle.line_arbiter.specs.Streams.{gap_of}
use Rattle.line_arbiter.specs.States.{KeepsItsPlace, KeepsItsSession, KeepsAllButSent, IsSkipped, ordinal_of}
use Rattle.fifo_lane.specs.Lane.{HasFilled, with_items}
use Rattle.feed_steps.specs.declared.event.Done.{Done}
use Rattle.feed_steps.specs.declared.event.Done.TheVariants as done
use Rattle.line_arbiter.specs.Additions.{AddsArrival, AddsRenewal, AddsSkip}
use Rattle.feed_steps.specs.Steps.{push_next, is_lane_full, AppliesTo}
use Rattle.feed_types.specs.declared.genuine.Genuine.{Ghosts as Genuine}
use Rattle.feed_steps.specs.Premises.{BringExactly}
use Rattle.venue_lines.specs.declared.faults.FeedFault.{FeedFault}
use Rattle.venue_lines.specs.declared.faults.FeedFault.TheVariants.{UnknownVenue}
use Rattle.venue_lines.specs.declared.faults.RenewalFault.{RenewalFault}
use Rattle.venue_lines.specs.declared.faults.RenewalFault.TheVariants as renewal
use Rattle.venue_lines.specs.declared.faults.GapFault.{GapFault}
use Rattle.venue_lines.specs.declared.faults.GapFault.TheVariants as gaps
use Rattle.feed_steps.specs.declared.unsent.Unsent.{Unsent}
use Rattle.feed_steps.specs.declared.unsent.Unsent.TheVariants as unsent
use Rattle.feed_steps.specs.Lanes.{FeedLanes}
use Rattle.venue_lines.specs.Cells.{IsPossibleCall, CellState, CellFitsHistory, MayMeetAnother, IsPossibleAtVenue, new_pace}

-- Packet: the venue's history has grown by the packet, and the cell represents it.
pub record TakesPacket (line : LineId) (p : Content) (answer : Result Outcome LineFault)
    (h : History) (old new : CellState) : Type 0 where
  pub after : History
  pub taken : AddsArrival old.arbiter.window old.arbiter.sent line p h answer after
  pub fits : CellFitsHistory new after

-- Where the lines bring exactly these sessions, a packet of one of them is accepted, or is of
-- another session than the present one, or is an end that is answered as too early.
abbrev pub AcceptsTheirPacket : {S : Type 0} → Genuine S → ℕ → Content
    → Result Outcome LineFault → Type 0
AcceptsTheirPacket premise venue p answer =
    (all : List Session) (ordinal : ℕ) (session : Session)
    → BringExactly premise venue all → IsSessionAt all ordinal session
    → IsOfSession session p
    → IsOk answer
    ⊎ ((answer ≡ Err OtherSession) ⊎ ((p.kind ≡ kinds.End) × (answer ≡ Err EndTooEarly)))

-- And it is too early only once messages past it were given up: the present part of each history
-- that the cell represents goes on from past the session's end.
abbrev pub HasSkippedPast : {S : Type 0} → Genuine S → CellState → Content
    → Result Outcome LineFault → Type 0
HasSkippedPast premise c p answer =
    answer ≡ Err EndTooEarly → (all : List Session) (ordinal : ℕ) (session : Session) (h : History)
    → BringExactly premise c.arbiter.venue all → IsSessionAt all ordinal session
    → IsOfSession session p → CellFitsHistory c h
    → length session.items + 1 < first_of h.present.packets

-- nothing else has changed
pub record KeepsButPackets (old new : CellState) : Type 0 where
  pub arbiter : KeepsItsPlace old.arbiter new.arbiter
  pub others : new ≡ record old { arbiter = new.arbiter; brought = new.brought }

-- the outcome of Push for an answer
abbrev pub push_done : Result ℕ Unsent → Done
push_done (Ok number) = done.Pushed number
push_done (Err unsent.Nothing) = done.NothingReady
push_done (Err unsent.LaneFull) = done.LaneFull

-- Push: the next item of the venue's streams was sent, if there is one; or the lane refused it,
-- which was sent as many items as it has room for.
pub record PushesOne (answer : Result ℕ Unsent)
    (h : History) (old new : CellState) : Type 0 where
  pub full : is_lane_full answer ≡ true → HasFilled old.lane
  pub comes : AppliesTo
      (push_next (is_lane_full answer) (slice_get (streams_of h) (length old.lane.items))
      old.lane.items)
      old.lane.items (push_done answer) new.lane.items
  pub fits : CellFitsHistory new h

-- nothing else has changed
pub record KeepsButSent (old new : CellState) : Type 0 where
  pub arbiter : KeepsAllButSent old.arbiter new.arbiter
  pub lane : new.lane ≡ with_items old.lane new.lane.items
  pub others : new ≡ record old { arbiter = new.arbiter; lane = new.lane }

-- Packet and then Push, in one section: what came to the venue has grown by the packet, the next
-- item of its streams was sent, and the cell stands for both.
pub record TakesAndPushes (line : LineId) (p : Content) (outcome : Outcome) (h : History)
    (old new : CellState) : Type 0 where
  pub takes : TakesPacket line p (Ok outcome) h old new
  pub comes : AppliesTo
      (push_next false (slice_get (streams_of takes.after) (length old.lane.items)) old.lane.items)
      old.lane.items (done.Pushed p.number) new.lane.items

-- nothing else has changed
pub record KeepsButPushed (old new : CellState) : Type 0 where
  pub arbiter : KeepsItsSession old.arbiter new.arbiter
  pub lane : new.lane ≡ with_items old.lane new.lane.items
  pub others : new ≡ record old {
    arbiter = new.arbiter;
    lane = new.lane;
    brought = new.brought;
  }

-- no item is ready to be sent
abbrev pub HasNoneReady : CellState → Type 0
HasNoneReady c =
    (h : History) → CellFitsHistory c h → slice_get (streams_of h) (length c.lane.items) ≡ None

-- Push, again and again: the cell has sent this many items more, and nothing else has changed. It
-- ends where these are as many as asked for, where the lane refused one, which it may once as many
-- were sent as it has room for, or where no further item is ready.
pub record Pushes (most pushed : ℕ)
    (old new : CellState) : Type 0 where
  pub few : pushed ≤ most
  pub sent : length new.lane.items ≡ length old.lane.items + pushed
  pub others : KeepsButSent old new
  pub over : (pushed ≡ most) ⊎ (HasFilled new.lane ⊎ HasNoneReady new)

-- The answer to who asks to push what is ready of the venue, at most `most` items: how many items
-- its lane was sent.
abbrev pub FlushesVenue : {S : Type 0} → Genuine S → FeedLanes → ℕ → ℕ → ℕ → Type 0
FlushesVenue premise lanes venue most pushed =
    IsPossibleCall premise lanes venue (Pushes most pushed) (pushed ≡ 0)

-- The answer to a call on a venue: UnknownVenue where the feed has no such venue, and no other
-- fault; else what the section under the venue's lock answered, or, where the lock was another's,
-- `other`.
abbrev pub AnswersAtVenue : {S A : Type 0} → Genuine S → FeedLanes → ℕ
    → (A → CellState → CellState → Type 0) → A → Result A FeedFault → Type 0
AnswersAtVenue premise lanes venue section other (Ok answer) =
    (venue < length lanes.venues)
    × (IsPossibleAtVenue premise lanes venue (section answer)
    ⊎ (MayMeetAnother premise lanes venue × (answer ≡ other)))
AnswersAtVenue premise lanes venue section other (Err fault) =
    (fault ≡ UnknownVenue) × (length lanes.venues ≤ venue)

-- What was ready of the venue was pushed, until nothing was or the lane refused it.
pub record PushesReady {S : Type 0} (premise : Genuine S) (lanes : FeedLanes) (venue : ℕ)
    : Type 0 where
  pub pushed : ℕ
  pub flushed : FlushesVenue premise lanes venue (2 ^ 64 - 1) pushed

-- Packet and then Push, again and again, in one section: what came to the venue has grown by the
-- packet, and what is ready then was pushed, until nothing was or the lane refused it. (The first
-- item is pushed with the packet where nothing is held.)
pub record TakesAndPushesReady (line : LineId)
    (p : Content) (answer : Result Outcome LineFault) (old new : CellState) : Type 0 where
  pub between : CellState
  pub takes : (h : History) → CellFitsHistory old h → TakesPacket line p answer h old between
  pub kept : KeepsButPushed old between
  pub pushed : ℕ
  pub pushes : Pushes (2 ^ 64 - 1) pushed between new

-- A packet that isn't taken so: as many items were sent as the lane has room for, or the packet
-- doesn't go on where nothing is held, or hasn't one message.
abbrev pub IsLeft : Content → CellState → Type 0
IsLeft p c =
    HasFilled c.lane
    ⊎ ((h : History) → CellFitsHistory c h
    → IsNextPacket c.arbiter.session c.arbiter.window c.arbiter.sent h.present.packets p
    → length p.messages ≡ 1 → ⊥)

-- Renew: the present session is over and the next one begins, or nothing changes.
pub record RenewsSession (name : List ℕ) (answer : Result ℕ RenewFault) (h : History)
    (old new : CellState) : Type 0 where
  pub after : History
  pub renewed : AddsRenewal old.arbiter.sent name h answer after
  pub fits : CellFitsHistory new after

-- the next session of the cell's venue, with no request to repeat
pub record BeginsNext (old new : CellState) : Type 0 where
  pub venue : new.arbiter.venue ≡ old.arbiter.venue
  pub window : new.arbiter.window ≡ old.arbiter.window
  pub others : new ≡ record old { arbiter = new.arbiter; pace = new_pace }

-- Renew, as who asks for the session of this ordinal; a refused one changes nothing.
pub record RenewsInTurn (ordinal : ℕ) (name : List ℕ) (answer : Result ℕ RenewFault)
    (old new : CellState) : Type 0 where
  pub next : ordinal ≡ ordinal_of old.arbiter + 1
  pub renews : (h : History) → CellFitsHistory old h → RenewsSession name answer h old new
  pub begun : OnOk answer (BeginsNext old new)
  pub refused : OnErr answer (new ≡ old)

-- the ordinal isn't the next session's, and nothing has changed
abbrev pub IsOutOfTurn : ℕ → CellState → CellState → Type 0
IsOutOfTurn ordinal old new = (ordinal ≢ ordinal_of old.arbiter + 1) × (new ≡ old)

-- The answer to who begins the venue's session of this ordinal and name, by cases.
abbrev pub RenewsVenue : {S : Type 0} → Genuine S → FeedLanes → ℕ → ℕ → List ℕ
    → Result ℕ RenewalFault → Type 0
RenewsVenue premise lanes venue ordinal name (Ok begun) =
    IsPossibleAtVenue premise lanes venue (RenewsInTurn ordinal name (Ok begun))
RenewsVenue premise lanes venue ordinal name (Err (renewal.Venue fault)) =
    IsPossibleAtVenue premise lanes venue (RenewsInTurn ordinal name (Err fault))
RenewsVenue premise lanes venue ordinal name (Err renewal.WrongOrdinal) =
    IsPossibleAtVenue premise lanes venue (IsOutOfTurn ordinal) ⊎ MayMeetAnother premise lanes venue
RenewsVenue premise lanes venue ordinal name (Err renewal.UnknownVenue) =
    length lanes.venues ≤ venue

-- Skip: what is missing below the number is given up, or nothing changes.
pub record SkipsGap (number : ℕ) (answer : Result (Unit {0}) SkipFault) (h : History)
    (old new : CellState) : Type 0 where
  pub after : History
  pub skipped : AddsSkip old.arbiter.sent number h answer after
  pub fits : CellFitsHistory new after

-- the cell's venue goes on from the number, with no request to repeat
pub record GoesOnFrom (number : ℕ) (old new : CellState) : Type 0 where
  pub arbiter : IsSkipped old.arbiter new.arbiter number
  pub others : new ≡ record old { arbiter = new.arbiter; pace = new_pace }

-- Push, again and again, then Skip, and Push again, in one section. A skip is refused for an item
-- that is ready only where not all items were pushed: as many were sent as the lane has room for.
pub record PushesAndSkips (number : ℕ)
    (answer : Result (Unit {0}) SkipFault) (old new : CellState) : Type 0 where
  pub before : CellState
  pub first : ℕ
  pub sends : Pushes (2 ^ 64 - 1) first old before
  pub between : CellState
  pub skips : (h : History) → CellFitsHistory before h → SkipsGap number answer h before between
  pub on : OnOk answer (GoesOnFrom number before between)
  pub refused : OnErr answer (between ≡ before)
  pub full : answer ≡ Err ItemsReady → (first ≡ 2 ^ 64 - 1) ⊎ HasFilled before.lane
  pub pushed : ℕ
  pub pushes : Pushes (2 ^ 64 - 1) pushed between new

-- The answer to who gives up what the venue lacks below the number, by cases, whatever is told of a
-- skip. Where the lock was another venue's, nothing is missing.
abbrev pub SkipsVenue : {S A : Type 0} → Genuine S → FeedLanes → ℕ → ℕ
    → Result A GapFault → Type 0
SkipsVenue premise lanes venue number (Ok told) =
    IsPossibleAtVenue premise lanes venue
    (PushesAndSkips number (Ok tt))
SkipsVenue premise lanes venue number (Err (gaps.Venue fault)) =
    IsPossibleAtVenue premise lanes venue
    (PushesAndSkips number (Err fault))
    ⊎ (MayMeetAnother premise lanes venue × (fault ≡ NothingMissing))
SkipsVenue premise lanes venue number (Err gaps.UnknownVenue) = length lanes.venues ≤ venue

-- The request for the gap to send now, if any, where one waits `wait_ms` milliseconds; only the
-- pace of requests has changed.
pub record RequestsGap (now_ms wait_ms : ℕ) (request : Option Request) (old new : CellState)
    : Type 0
  where
    pub paced : (h : History) → CellFitsHistory old h
        → IsPaced old.pace
        (gap_of old.arbiter.session old.arbiter.window old.arbiter.sent h.present.packets) now_ms
        wait_ms request new.pace
    pub kept : new ≡ record old { pace = new.pace }

-- The answer to who asks for the request to send now.
abbrev pub IsDueAt : {S : Type 0} → Genuine S → FeedLanes → ℕ → (now_ms wait_ms : ℕ)
    → Option Request → Type 0
IsDueAt premise lanes venue now_ms wait_ms request =
    IsPossibleCall premise lanes venue (RequestsGap now_ms wait_ms request) (request ≡ None)
