-- What a sink takes: events with the times of their records.
use Rattle.std.specs.Prelude.{ℕ, Bool, List, map, Option, Result}
use Rattle.feed_types.specs.declared.item.Numbered.{Numbered}
use Rattle.feed_types.specs.declared.journal.Notice.{Notice}
use Rattle.feed_types.specs.declared.line.LineId.{LineId}
use Rattle.mold_packet.specs.declared.fault.PacketFault.{PacketFault}
use Rattle.mold_packet.specs.declared.request.Request.{Request}
use Rattle.line_arbiter.specs.declared.outcome.Outcome.{Outcome}
use Rattle.line_arbiter.specs.declared.outcome.LineFault.{LineFault}
use Rattle.line_arbiter.specs.declared.faults.RenewFault.{RenewFault}
use Rattle.line_arbiter.specs.declared.faults.SkipFault.{SkipFault}
use Rattle.journal_book.specs.Changes.{notice_of}
use Rattle.event_sinks.specs.declared.event.ReplayedEvent.{ReplayedEvent}
use Rattle.event_sinks.specs.declared.event.ReplayedEvent.TheVariants.{Packet, Refusal, Item, Best, Gap, Renewal, Skip, Declaration, Last}

-- A packet was answered, with its messages' first number, their count and the length of its
-- datagram in bytes; a datagram was no packet, an item was taken, a national best changed, messages
-- are to be asked for, a renewal or a skip was answered, self-help was declared or withdrawn, or
-- the capture is over: the venue's last state. What came before all that is told is told as such,
-- to a sink that asks for it.
pub data SinkEvent : Type 0 where
  told_packet : (venue : ℕ) (line : LineId) (number count bytes : ℕ)
      (answer : Result Outcome LineFault) → SinkEvent
  told_refusal : (venue : ℕ) (line : LineId) (fault : PacketFault) → SinkEvent
  told_item : (venue : ℕ) (numbered : Numbered) → SinkEvent
  told_best : (notice : Notice) → SinkEvent
  told_gap : (venue : ℕ) (request : Request) → SinkEvent
  told_renewal : (venue : ℕ) (answer : Result ℕ RenewFault) → SinkEvent
  told_skip : (venue number : ℕ) (answer : Result (Unit {0}) SkipFault) → SinkEvent
  told_declaration : (venue : ℕ) (on : Bool) (position : Option ℕ) → SinkEvent
  told_last : (venue sent a b recovery : ℕ) → SinkEvent
  told_before : (event : SinkEvent) → SinkEvent

-- an event with the time at which its record came, if that is known
pub record TimedEvent : Type 0 where
  pub time : Option ℕ
  pub event : SinkEvent

abbrev pub timed_event : Option ℕ → SinkEvent → TimedEvent
timed_event time event = record { time = time; event = event }

-- the events of a record that came at this time
abbrev pub at_time : Option ℕ → List SinkEvent → List TimedEvent
at_time time events = map (timed_event time) events

-- what an event says
abbrev pub told_by : ReplayedEvent → SinkEvent
told_by (Packet venue line number count bytes answer) =
    told_packet venue line number count bytes answer.now
told_by (Refusal venue line fault) = told_refusal venue line fault
told_by (Item venue item) = told_item venue item.now
told_by (Best number change) = told_best (notice_of number change.now)
told_by (Gap venue request) = told_gap venue request.now
told_by (Renewal venue answer) = told_renewal venue answer.now
told_by (Skip venue number answer) = told_skip venue number answer.now
told_by (Declaration venue on position) = told_declaration venue on position
told_by (Last venue sent a b recovery) = told_last venue sent a b recovery
