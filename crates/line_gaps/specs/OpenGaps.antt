-- The gaps of a line that are open after a venue's events, and those that an event ends. Of a list
-- of events the last one stands first. All are of one session, but where it says otherwise.
use Rattle.std.specs.Prelude.{ℕ, ◌+◌, ◌-◌, Bool, true, false, not, nat_lt, min, List, [], ◌∷◌, ◌++◌, length, map, Option, None, Some, Ok, if◌then◌else◌}
use Rattle.std.specs.List.{filter, fold}
use Rattle.event_sinks.specs.SinkEvents.{SinkEvent, TimedEvent, told_last, told_packet, told_renewal}
use Rattle.line_gaps.specs.declared.gap_line.GapLine.{GapLine}
use Rattle.line_gaps.specs.declared.gap_line.GapLine.TheVariants as lines
use Rattle.line_gaps.specs.declared.heard_packet.TimedPacket.{TimedPacket}
use Rattle.line_gaps.specs.declared.open_gap.EndedGap.{EndedGap}
use Rattle.line_gaps.specs.declared.open_gap.GapEnd.{GapEnd}
use Rattle.line_gaps.specs.declared.open_gap.GapEnd.TheVariants as ends
use Rattle.line_gaps.specs.declared.open_gap.OpenGap.{OpenGap}
use Rattle.line_gaps.specs.Ends.{end_on, joined_gap, open_gap_of}
use Rattle.line_gaps.specs.Gaps.{counts_on, highest_on, is_given_up, is_missing}
use Rattle.line_gaps.specs.Runs.{count_in_run}

-- a next session begins
abbrev pub starts_session : SinkEvent → Bool
starts_session (told_renewal venue (Ok ordinal)) = true
starts_session _ = false

-- the events of the present session, of those of all sessions
abbrev pub in_session : List TimedEvent → List TimedEvent
in_session [] = []
in_session (last ∷ earlier) =
    if starts_session last.event then [] else last ∷ in_session earlier

-- the session ends, or the capture
abbrev pub closes_gaps : SinkEvent → Bool
closes_gaps (told_last venue sent a b recovery) = true
closes_gaps event = starts_session event

-- a number of the gap is missing
abbrev pub is_open_after : List TimedEvent → OpenGap → Bool
is_open_after events gap = nat_lt 0 (count_in_run (is_missing events) gap.run)

-- how many numbers of the gap were given up
abbrev pub given_up_of : List TimedEvent → OpenGap → ℕ
given_up_of events gap = min (count_in_run (is_given_up events) gap.run) 18446744073709551615

-- the gap of the numbers that a packet passes over, where the highest before is this
abbrev pub gap_passed : ℕ → Option TimedPacket → List OpenGap
gap_passed highest None = []
gap_passed highest (Some packet) =
    if nat_lt (highest + 1) packet.number
    then open_gap_of (record { first = highest + 1; last = packet.number - 1 }) packet.time ∷ []
    else []

-- the gap that begins with an event
abbrev pub gaps_with : GapLine → List TimedEvent → TimedEvent → List OpenGap
gaps_with line earlier last = gap_passed (highest_on line earlier) (counts_on line earlier last)

-- the newest gap becomes one with the next
abbrev pub join_newest : List OpenGap → OpenGap → List OpenGap
join_newest [] gap = gap ∷ []
join_newest (one ∷ []) gap = joined_gap one gap ∷ []
join_newest (one ∷ next ∷ more) gap = one ∷ join_newest (next ∷ more) gap

-- a gap more is open: where 16 are, it becomes one with the newest
abbrev pub add_gap : List OpenGap → OpenGap → List OpenGap
add_gap gaps gap = if nat_lt (length gaps) 16 then gaps ++ gap ∷ [] else join_newest gaps gap

-- The gaps of a line that are open: those that were, and the one that begins, of which a number is
-- missing.
abbrev pub open_on : GapLine → List TimedEvent → List OpenGap
open_on line [] = []
open_on line (last ∷ earlier) =
    if closes_gaps last.event then []
    else fold add_gap (filter (is_open_after (last ∷ earlier)) (open_on line earlier))
    (filter (is_open_after (last ∷ earlier)) (gaps_with line earlier last))

-- a gap that ended after these events
abbrev pub ended_gap : GapLine → List TimedEvent → GapEnd → Option ℕ → OpenGap → EndedGap
ended_gap line events by time gap = record {
  line = line;
  gap = gap;
  given_up = given_up_of events gap;
  ended = time;
  by = by;
}

-- what ends a gap with an event
abbrev pub end_with : SinkEvent → GapEnd
end_with (told_packet venue line number count bytes answer) = end_on line
end_with event = ends.Skip

-- a gap of which no number is missing as its packet comes: some were given up, or all had come
abbrev pub over_before : GapLine → List TimedEvent → OpenGap → EndedGap
over_before line events gap =
    ended_gap line events
    (if nat_lt 0 (count_in_run (is_given_up events) gap.run) then ends.Skip else ends.Before)
    gap.began gap

-- The gaps of a line that an event ends: all that are open with the session or the capture, else
-- those of which no number is missing any more, and of the one that begins with it.
abbrev pub ended_on : GapLine → List TimedEvent → TimedEvent → List EndedGap
ended_on line earlier last =
    if closes_gaps last.event
    then map (ended_gap line earlier ends.Open None) (open_on line earlier)
    else map (ended_gap line (last ∷ earlier) (end_with last.event) last.time)
    (filter (λ g. not (is_open_after (last ∷ earlier) g)) (open_on line earlier))
    ++ map (over_before line (last ∷ earlier))
    (filter (λ g. not (is_open_after (last ∷ earlier) g)) (gaps_with line earlier last))

-- those of line A, of line B and of all lines
abbrev pub gaps_ended : List TimedEvent → TimedEvent → List EndedGap
gaps_ended earlier last =
    ended_on lines.A earlier last
    ++ (ended_on lines.B earlier last ++ ended_on lines.All earlier last)
