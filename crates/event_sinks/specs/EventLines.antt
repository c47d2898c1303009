-- The line of each event.
use Rattle.std.specs.Prelude.{ℕ, List, []}
use Rattle.mold_packet.specs.Faults.{code_of}
use Rattle.event_sinks.specs.Lines.{packet_line, fault_line, item_line, best_line, gap_line, renew_line, skip_line, declare_line, venue_line, wins_by}
use Rattle.event_sinks.specs.SinkEvents.{SinkEvent, TimedEvent, told_packet, told_refusal, told_item, told_best, told_gap, told_renewal, told_skip, told_declaration, told_last, told_before}

abbrev pub event_line : SinkEvent → List ℕ
event_line (told_packet venue line number count bytes answer) = packet_line venue line answer
event_line (told_refusal venue line fault) = fault_line venue line (code_of fault)
event_line (told_item venue numbered) = item_line venue numbered
event_line (told_best notice) = best_line notice
event_line (told_gap venue request) = gap_line venue request
event_line (told_renewal venue answer) = renew_line venue answer
event_line (told_skip venue number answer) = skip_line venue number answer
event_line (told_declaration venue on position) = declare_line venue on position
event_line (told_last venue sent a b recovery) = venue_line venue sent (wins_by a b recovery)
event_line (told_before event) = []

-- the same, whenever it came
abbrev pub timed_line : TimedEvent → List ℕ
timed_line e = event_line e.event
