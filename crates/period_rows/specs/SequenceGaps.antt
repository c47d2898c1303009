-- The numbers of a line as periods count them, beside its gaps. Of a list of events the last one
-- stands first.
use Rattle.std.specs.Prelude.{◌≡◌, ℕ, ◌+◌, Bool, false, not, List, [], ◌∷◌, if◌then◌else◌}
use Rattle.feed_types.specs.declared.line.LineId.{LineId}
use Rattle.feed_types.specs.FullCounts.{count_after}
use Rattle.event_sinks.specs.SinkEvents.{SinkEvent, TimedEvent, told_packet}
use Rattle.line_arbiter.specs.Streams.{is_same_line}
use Rattle.line_gaps.specs.declared.gap_line.GapLine.{GapLine}
use Rattle.line_gaps.specs.declared.open_gap.OpenGap.{OpenGap}
use Rattle.line_gaps.specs.OpenGaps.{gaps_with, in_session}
use Rattle.period_rows.specs.Sequences.{come_after, no_sequence, passed_over, sequence_after}
use Rattle.period_rows.specs.declared.line_sequence.LineSequence.{LineSequence}

-- a packet of another line of the venue; an event before a span stands here as itself
abbrev pub is_of_other : LineId → SinkEvent → Bool
is_of_other line (told_packet venue on number count bytes answer) = not (is_same_line on line)
is_of_other line _ = false

-- a line's numbers after events of its venue
abbrev pub sequence_told : LineId → List TimedEvent → LineSequence
sequence_told line [] = no_sequence
sequence_told line (last ∷ earlier) =
    let s = come_after (sequence_told line earlier) last.event in
    if is_of_other line last.event then s else sequence_after s last.event

-- the messages of gaps
abbrev pub messages_of : List OpenGap → ℕ
messages_of [] = 0
messages_of (gap ∷ gaps) = gap.messages + messages_of gaps

-- What a line's event adds to the messages that its period misses are those of the gap that begins
-- with it, by the definition of gaps.
abbrev pub MissesItsGaps : LineId → GapLine → Type 0
MissesItsGaps line gap_line = (earlier : List TimedEvent) (last : TimedEvent)
    → is_of_other line last.event ≡ false
    → count_after 0 (passed_over (sequence_told line earlier) last.event)
    ≡ messages_of (gaps_with gap_line (in_session earlier) last)
