-- The events that the records of a capture emit, one record after the other, by the definitions
-- over what came to each venue.
use Rattle.std.specs.Prelude.{◌≡◌, ◌⊎◌, ℕ, Bool, List, [], ◌∷◌, ◌++◌, length, drop, map, Option, Some, None, Result, slice_get, slice_set, if◌then◌else◌}
use Rattle.feed_types.specs.declared.line.LineId.{LineId}
use Rattle.mold_packet.specs.declared.fault.PacketFault.{PacketFault}
use Rattle.mold_packet.specs.declared.request.Request.{Request}
use Rattle.mold_packet.specs.Content.{Content, Spells}
use Rattle.mold_packet.specs.Faults.{HasFault}
use Rattle.line_arbiter.specs.declared.outcome.Outcome.{Outcome}
use Rattle.line_arbiter.specs.declared.outcome.LineFault.{LineFault}
use Rattle.line_arbiter.specs.declared.faults.RenewFault.{RenewFault}
use Rattle.line_arbiter.specs.declared.faults.SkipFault.{SkipFault}
use Rattle.line_arbiter.specs.Additions.{AddsArrival, AddsRenewal, AddsSkip}
use Rattle.line_arbiter.specs.Packets.{Input}
use Rattle.line_arbiter.specs.Streams.{stream_of}
use Rattle.line_arbiter.specs.Histories.{History}
use Rattle.line_arbiter.specs.LastSent.{last_gap, last_sent, stream_length}
use Rattle.capture_records.specs.Capture.{CaptureRecord, datagram_record, renewal_record, skip_record, self_help_record, record_venue}
use Rattle.feed_text.specs.ReplayEvents.{ReplayEvent, packet_answered, packet_refused, item_taken, gap_left, renewal_answered, skip_answered, self_help_declared}

-- the event of a gap, where there is one
abbrev pub gap_event : ℕ → Option Request → List ReplayEvent
gap_event venue None = []
gap_event venue (Some request) = gap_left venue request ∷ []

-- the event of the gap that is left, where gaps are asked for
abbrev pub gap_emitted : ℕ → Bool → ℕ → History → List ReplayEvent
gap_emitted window gaps venue h =
    if gaps then gap_event venue (last_gap window h) else []

-- the events of the items that one more packet made ready, or a skip
abbrev pub items_emitted : ℕ → History → List Input → List ReplayEvent
items_emitted venue h packets = map (item_taken venue) (drop (stream_length h) (stream_of packets))

-- a datagram that is no packet emits its fault, and nothing changes
pub record EmitsFault (window : ℕ) (gaps : Bool) (venue : ℕ) (line : LineId) (bytes : List ℕ)
    (old : History) (emitted : List ReplayEvent) (new : History) : Type 0 where
  pub fault : PacketFault
  pub has : HasFault bytes fault
  pub same : new ≡ old
  pub emitted_is : emitted ≡ packet_refused venue line fault ∷ gap_emitted window gaps venue new

-- a datagram that is a packet emits its answer, and then each item that it made ready
pub record EmitsPacket (window : ℕ) (gaps : Bool) (venue : ℕ) (line : LineId) (bytes : List ℕ)
    (old : History) (emitted : List ReplayEvent) (new : History) : Type 0 where
  pub packet : Content
  pub rest : List ℕ
  pub answer : Result Outcome LineFault
  pub spells : Spells bytes packet rest
  pub taken : AddsArrival window (last_sent old) line packet old answer new
  pub emitted_is : emitted
      ≡ packet_answered venue line packet.number (length packet.messages) (length bytes) answer
      ∷ items_emitted venue old new.present.packets ++ gap_emitted window gaps venue new

-- a renewal emits its answer, and where that is Ok the next session begins
pub record EmitsRenewal (venue : ℕ) (name : List ℕ) (old : History) (emitted : List ReplayEvent)
    (new : History) : Type 0 where
  pub answer : Result ℕ RenewFault
  pub renewed : AddsRenewal (last_sent old) name old answer new
  pub emitted_is : emitted ≡ renewal_answered venue answer ∷ []

-- a skip emits its answer, and then each item that it made ready: where the answer is Ok Skipped,
-- and what it had held up
pub record EmitsSkip (venue number : ℕ) (old : History) (emitted : List ReplayEvent)
    (new : History) : Type 0 where
  pub answer : Result (Unit {0}) SkipFault
  pub skipped : AddsSkip (last_sent old) number old answer new
  pub emitted_is : emitted ≡ skip_answered venue number answer
      ∷ items_emitted venue old new.present.packets

-- a declaration of self-help leaves the venue's history unchanged
pub record EmitsSelfHelp (venue : ℕ) (on : Bool) (old : History) (emitted : List ReplayEvent)
    (new : History) : Type 0 where
  pub same : new ≡ old
  pub emitted_is : emitted ≡ self_help_declared venue on ∷ []

-- a record of one venue
abbrev pub EmitsAt : ℕ → Bool → CaptureRecord → History → List ReplayEvent → History → Type 0
EmitsAt window gaps (datagram_record venue line bytes) old emitted new =
    EmitsFault window gaps venue line bytes old emitted new
    ⊎ EmitsPacket window gaps venue line bytes old emitted new
EmitsAt window gaps (renewal_record venue name) old emitted new =
    EmitsRenewal venue name old emitted new
EmitsAt window gaps (skip_record venue number) old emitted new =
    EmitsSkip venue number old emitted new
EmitsAt window gaps (self_help_record venue on) old emitted new =
    EmitsSelfHelp venue on old emitted new

-- a record: its venue's history goes on, and the others stay
pub record EmitsRecord (window : ℕ) (gaps : Bool) (r : CaptureRecord) (old : List History)
    (emitted : List ReplayEvent) (new : List History) : Type 0 where
  pub before : History
  pub after : History
  pub at : slice_get old (record_venue r) ≡ Some before
  pub emits : EmitsAt window gaps r before emitted after
  pub others : new ≡ slice_set old (record_venue r) after

-- records, one after the other
abbrev pub Emits : ℕ → Bool → List CaptureRecord → List History → List ReplayEvent → List History
    → Type 0
Emits window gaps [] old emitted new = (emitted ≡ []) × (new ≡ old)
Emits window gaps (r ∷ rs) old emitted new =
    (mid : List History) × (first : List ReplayEvent) × (others : List ReplayEvent)
    × EmitsRecord window gaps r old first mid × Emits window gaps rs mid others new
    × (emitted ≡ first ++ others)
