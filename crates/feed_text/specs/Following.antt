-- What a replay keeps of each venue, and that it follows the histories. Cited by private clauses
-- alone.
use Rattle.std.specs.Prelude.{◌≡◌, ℕ, Bool, List, [], ◌∷◌, ◌++◌, ◌+◌, length, Some, Result, OnOk, slice_get, drop, map}
use Rattle.feed_types.specs.declared.line.LineId.{LineId}
use Rattle.mold_packet.specs.Content.{Content}
use Rattle.line_arbiter.specs.declared.outcome.Outcome.{Outcome}
use Rattle.line_arbiter.specs.declared.outcome.LineFault.{LineFault}
use Rattle.line_arbiter.specs.declared.faults.RenewFault.{RenewFault}
use Rattle.line_arbiter.specs.declared.faults.SkipFault.{SkipFault}
use Rattle.line_arbiter.specs.Packets.{Input, arrival_of, end_of}
use Rattle.line_arbiter.specs.Streams.{closed_of, opens_of, place_of, stream_of}
use Rattle.line_arbiter.specs.Histories.{History, items_of, names_of, after_input, history_after, skip_after}
use Rattle.line_arbiter.specs.Outcomes.{IsOutcome}
use Rattle.line_arbiter.specs.Renewals.{IsRenewal}
use Rattle.line_arbiter.specs.Skips.{IsSkip}
use Rattle.line_arbiter.specs.Counts.{shown}
use Rattle.line_arbiter.specs.States.{State, KeepsAllButSent}
use Rattle.line_arbiter.specs.Fits.{Fits, FitsHistory}
use Rattle.feed_text.specs.declared.replay_sink.PublishStop.{PublishStop}
use Rattle.capture_records.specs.Capture.{CaptureRecord, record_venue}
use Rattle.feed_text.specs.ReplayEvents.{ReplayEvent, item_taken, packet_answered}
use Rattle.line_arbiter.specs.LastSent.{stream_length, last_sent}
use Rattle.feed_text.specs.Emitted.{items_emitted, EmitsAt, EmitsRecord}
use Rattle.event_sinks.specs.declared.venue_gap.VenueGap.{VenueGap}
use Rattle.feed_text.specs.Lacks.{lacks_of}
use Rattle.feed_text.specs.ReplayStates.{SinkTaking, ReplayState, EmitsInto}

-- a venue's arbiter, how many items were sent before the session's present part, as far as a u64
-- shows that, and the number after which that part opens
pub record ReplayVenue : Type 0 where
  pub arbiter : State
  pub sent_before : ℕ
  pub opens_after : ℕ

-- The venue at this place, with a window of this width, has this history, and `count` items of its
-- present session were sent.
pub record HasSent (width place count : ℕ) (v : ReplayVenue) (h : History) : Type 0 where
  pub history : FitsHistory v.arbiter h
  pub number : v.arbiter.venue ≡ place
  pub window : v.arbiter.window ≡ width
  pub sent : place_of h.present.packets v.arbiter.sent ≡ count
  pub sent_before : v.sent_before
      ≡ shown (length (items_of h.earlier) + length (closed_of h.present.packets))
  pub opens_after : v.opens_after + 1 ≡ opens_of h.present.packets

-- The same, and everything that is ready was sent.
abbrev pub Follows : ℕ → ℕ → ReplayVenue → History → Type 0
Follows width place v h = HasSent width place (stream_length h) v h

-- All that is ready was sent, and the rest is kept.
pub record SendsReady (from to : State) : Type 0 where
  pub fits : (P : List Input) → Fits from P
      → Fits to P × (place_of P to.sent ≡ length (stream_of P))
  pub kept : KeepsAllButSent from to

-- The items that are ready were taken, each once and in sequence. Where all of them were, the
-- arbiter has sent them, and keeps the rest.
pub record TakesReady {K : Type 0} (taking : SinkTaking K) (venue : ℕ) (from to : State)
    (old new : ReplayState K) (done : Result (Unit {0}) PublishStop) : Type 0 where
  pub emits : (P : List Input) → Fits from P
      → EmitsInto taking old (map (item_taken venue) (drop (place_of P from.sent) (stream_of P)))
      new done
  pub sent : OnOk done (SendsReady from to)

-- The answer of a packet, whose datagram has this many bytes, and then the items that it made ready
-- were emitted. Where all of them were, the venue follows the history with this packet.
pub record EmitsOutcome {K : Type 0} (taking : SinkTaking K) (width place : ℕ) (line : LineId)
    (packet : Content) (bytes : ℕ) (h : History) (old new : ReplayState K) (v : ReplayVenue)
    (done : Result (Unit {0}) PublishStop) : Type 0 where
  pub answer : Result Outcome LineFault
  pub outcome : IsOutcome h.present.name width (last_sent h) h.present.packets packet answer
  pub emits : EmitsInto taking old
      (packet_answered place line packet.number (length packet.messages) bytes answer
      ∷ items_emitted place h (h.present.packets ++ arrival_of line packet answer ∷ []))
      new done
  pub follows : OnOk done (Follows width place v (after_input h (arrival_of line packet answer)))

-- The same, whatever history the venue followed.
abbrev pub PublishesPacket : {K : Type 0} → SinkTaking K → ℕ → LineId → Content → ℕ → ReplayVenue
    → ReplayState K → ReplayVenue → ReplayState K → Result (Unit {0}) PublishStop → Type 0
PublishesPacket taking place line packet bytes old before new after done =
    (width : ℕ) (h : History) → Follows width place old h
    → EmitsOutcome taking width place line packet bytes h before after new done

-- A renewal was answered, and the venue follows the history after it.
pub record Renews (width place : ℕ) (name : List ℕ) (h : History) (v : ReplayVenue)
    (answer : Result ℕ RenewFault) : Type 0 where
  pub is : IsRenewal (names_of h) (end_of h.present.packets) (last_sent h) name answer
  pub follows : Follows width place v (history_after h name answer)

-- A skip was answered. Where that is Ok, the history goes on with it, and what was sent is what
-- came
-- before it.
pub record GivesUp (width place number : ℕ) (h : History) (v : ReplayVenue)
    (answer : Result (Unit {0}) SkipFault) : Type 0 where
  pub is : IsSkip h.present.packets (last_sent h) number answer
  pub sent : HasSent width place (stream_length h) v (skip_after h number answer)

-- The events of one record were emitted, and where all of them were the venue follows the history
-- after it.
pub record EmitsOne {K : Type 0} (taking : SinkTaking K) (window : ℕ) (gaps : Bool)
    (r : CaptureRecord) (h : History) (old new : ReplayState K) (v : ReplayVenue)
    (done : Result (Unit {0}) PublishStop) : Type 0 where
  pub emitted : List ReplayEvent
  pub after : History
  pub at : EmitsAt window gaps r h emitted after
  pub emits : EmitsInto taking old emitted new done
  pub follows : OnOk done (Follows window (record_venue r) v after)

-- the venues of a capture, and whether gap lines are asked for
pub record VenueList : Type 0 where
  pub items : List ReplayVenue
  pub gaps : Bool

-- each venue follows its history
pub record FollowAll (window : ℕ) (vs : List ReplayVenue) (hs : List History) : Type 0 where
  pub count : length vs ≡ length hs
  pub each : (i : ℕ) (v : ReplayVenue) (h : History) → slice_get vs i ≡ Some v
      → slice_get hs i ≡ Some h
      → Follows window i v h

-- The events of a record were emitted, and where all of them were the venues follow the histories
-- after it.
pub record EmitsNext {K : Type 0} (taking : SinkTaking K) (window : ℕ) (gaps : Bool)
    (r : CaptureRecord) (hs : List History) (old new : ReplayState K) (vs : List ReplayVenue)
    (done : Result (Unit {0}) PublishStop) : Type 0 where
  pub emitted : List ReplayEvent
  pub after : List History
  pub record_tells : EmitsRecord window gaps r hs emitted after
  pub emits : EmitsInto taking old emitted new done
  pub follow : OnOk done (FollowAll window vs after)

-- The venues take a record, whatever histories they follow.
pub record TakesRecord {K : Type 0} (taking : SinkTaking K) (from : VenueList)
    (r : CaptureRecord) (old new : ReplayState K) (to : VenueList)
    (done : Result (Unit {0}) PublishStop) : Type 0 where
  pub gaps : OnOk done (to.gaps ≡ from.gaps)
  pub count : OnOk done (length to.items ≡ length from.items)
  pub emitted : (window : ℕ) (hs : List History) → FollowAll window from.items hs
      → EmitsNext taking window from.gaps r hs old new to.items done

-- What the venues lack follows the old list, whatever histories the venues follow.
abbrev pub LeavesLacks : VenueList → List VenueGap → List VenueGap → Type 0
LeavesLacks at old new =
    (window : ℕ) (hs : List History) → FollowAll window at.items hs
    → new ≡ old ++ lacks_of window 0 hs
