-- The numbers of lines' packets, and how many of them their packets pass over.
use Rattle.std.specs.Prelude.{ℕ, ◌+◌, ◌-◌, ◌*◌, ◌||◌, false, is_some, List, Option, None, Some, Ok, slice_index_or, slice_set, if◌then◌else◌}
use Rattle.feed_types.specs.declared.line.LineId.{LineId}
use Rattle.feed_types.specs.declared.line.LineId.TheVariants.{A, B, Recovery}
use Rattle.line_arbiter.specs.declared.outcome.Outcome.TheVariants.{Ahead}
use Rattle.event_sinks.specs.SinkEvents.{SinkEvent, told_before, told_packet, told_renewal, told_skip}
use Rattle.line_gaps.specs.Gaps.{brings_messages, far_that, packet_heard, highest_with}
use Rattle.line_gaps.specs.LineSteps.{highest_joined, joined_at}
use Rattle.line_gaps.specs.declared.heard_packet.TimedPacket.{TimedPacket}
use Rattle.period_rows.specs.declared.line_sequence.LineSequence.{LineSequence}

-- ---- a line

abbrev pub no_sequence : LineSequence
no_sequence = record { begun = false; highest = 0; far = None; has_come = false }

-- The packet that counts with an event of the line: its own, unless that was refused, or is past
-- the window. One past the window counts with the line's next one of these, if that goes on from it
-- (as for gaps).
abbrev pub counts_now : Option TimedPacket → SinkEvent → Option TimedPacket
counts_now far (told_packet venue line number count bytes (Ok Ahead)) = far_that number far
counts_now far (told_packet venue line number count bytes (Ok outcome)) =
    Some (packet_heard line number count None)
counts_now far _ = None

-- the line's latest packet past the window
abbrev pub far_after : Option TimedPacket → SinkEvent → Option TimedPacket
far_after far (told_packet venue line number count bytes (Ok Ahead)) =
    Some (packet_heard line number count None)
far_after far _ = far

-- the line's numbers after the packet that counts
abbrev pub sequence_counted : LineSequence → Option TimedPacket → Option TimedPacket
    → LineSequence
sequence_counted s counted far = record {
  begun = is_some counted || s.begun;
  highest = highest_with s.highest counted;
  far = far;
  has_come = s.has_come;
}

-- after an event of any line of its venue, with which a message came or didn't
abbrev pub come_after : LineSequence → SinkEvent → LineSequence
come_after s event = record s { has_come = brings_messages event || s.has_come }

-- A line's numbers after an event of it or of its venue: a packet that is refused says nothing, a
-- next session begins at 1, and after a skip that joins the session, since no message of it came
-- before on any line, a line of which nothing came begins there.
abbrev pub sequence_after : LineSequence → SinkEvent → LineSequence
sequence_after s (told_packet venue line number count bytes answer) =
    sequence_counted s (counts_now s.far (told_packet venue line number count bytes answer))
    (far_after s.far (told_packet venue line number count bytes answer))
sequence_after s (told_renewal venue (Ok ordinal)) = no_sequence
sequence_after s (told_skip venue number (Ok done)) =
    record s { highest = highest_joined s.begun s.highest (joined_at s.has_come number) }
sequence_after s _ = s

-- how many numbers a packet passes over: those between the highest one and its own
abbrev pub passed_by : ℕ → Option TimedPacket → ℕ
passed_by highest None = 0
passed_by highest (Some packet) = packet.number - (highest + 1)

abbrev pub passed_over : LineSequence → SinkEvent → ℕ
passed_over s event = passed_by s.highest (counts_now s.far event)

-- ---- the lines of a capture: A and B of venue 0, then those of venue 1, and so on

-- the place of a venue's line; recovery has none
abbrev pub line_place : ℕ → LineId → Option ℕ
line_place venue A = Some (2 * venue)
line_place venue B = Some (2 * venue + 1)
line_place venue Recovery = None

abbrev pub sequence_at : SinkEvent → List LineSequence → ℕ → List LineSequence
sequence_at event ss place =
    slice_set ss place (sequence_after (slice_index_or ss place no_sequence) event)

-- a packet goes on with the numbers of its own line
abbrev pub own_sequence : SinkEvent → List LineSequence → Option ℕ → List LineSequence
own_sequence event ss None = ss
own_sequence event ss (Some place) = sequence_at event ss place

-- those of both lines of a venue
abbrev pub both_sequences : SinkEvent → List LineSequence → ℕ → List LineSequence
both_sequences event ss venue =
    sequence_at event (sequence_at event ss (2 * venue)) (2 * venue + 1)

-- a message that comes on one line of a venue has come for both
abbrev pub come_at : SinkEvent → List LineSequence → ℕ → List LineSequence
come_at event ss place =
    slice_set ss place (come_after (slice_index_or ss place no_sequence) event)

abbrev pub both_come : SinkEvent → List LineSequence → ℕ → List LineSequence
both_come event ss venue = come_at event (come_at event ss (2 * venue)) (2 * venue + 1)

abbrev pub packet_sequences : SinkEvent → List LineSequence → ℕ → LineId → List LineSequence
packet_sequences event ss venue line =
    own_sequence event (both_come event ss venue) (line_place venue line)

-- the numbers of all lines after an event, be it told or before all that is told
abbrev pub sequences_after : List LineSequence → SinkEvent → List LineSequence
sequences_after ss (told_packet venue line number count bytes answer) =
    packet_sequences (told_packet venue line number count bytes answer) ss venue line
sequences_after ss (told_renewal venue answer) =
    both_sequences (told_renewal venue answer) ss venue
sequences_after ss (told_skip venue number answer) =
    both_sequences (told_skip venue number answer) ss venue
sequences_after ss (told_before event) = sequences_after ss event
sequences_after ss _ = ss
