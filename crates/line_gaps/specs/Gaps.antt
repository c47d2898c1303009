-- The gaps of a venue, by its events. Of a list of events the last one stands first. All are of one
-- venue, and of its present session, but where it says otherwise.
use Rattle.std.specs.Prelude.{ℕ, ◌-◌, Bool, true, false, ◌&&◌, ◌||◌, not, nat_le, nat_lt, max, is_some, List, [], ◌∷◌, Option, None, Some, Ok, if◌then◌else◌}
use Rattle.std.specs.List.{list_any}
use Rattle.feed_types.specs.declared.line.LineId.{LineId}
use Rattle.feed_types.specs.declared.line.LineId.TheVariants as on
use Rattle.feed_types.specs.FullCounts.{count_after}
use Rattle.line_arbiter.specs.Streams.{is_same_line}
use Rattle.line_arbiter.specs.declared.outcome.Outcome.TheVariants.{Taken, Ahead}
use Rattle.event_sinks.specs.SinkEvents.{SinkEvent, TimedEvent, told_packet, told_skip}
use Rattle.line_gaps.specs.declared.gap_line.GapLine.{GapLine}
use Rattle.line_gaps.specs.declared.gap_line.GapLine.TheVariants as lines
use Rattle.line_gaps.specs.declared.heard_packet.TimedPacket.{TimedPacket}

-- ---- numbers that came, were given up, or are missing

-- the last number that a packet tells of: of its last message, or the one below its own
abbrev pub last_number_told : ℕ → ℕ → ℕ
last_number_told number count = count_after (number - 1) count

-- a packet that was taken brings_number a number
abbrev pub brings_number : ℕ → SinkEvent → Bool
brings_number n (told_packet venue line number count bytes (Ok (Taken new repeated))) =
    nat_le number n && nat_le n (last_number_told number count)
brings_number n _ = false

-- a skip that was granted passes it
abbrev pub passes : ℕ → SinkEvent → Bool
passes n (told_skip venue number (Ok done)) = nat_lt n number
passes n _ = false

-- messages came with a packet
abbrev pub brings_messages : SinkEvent → Bool
brings_messages (told_packet venue line number count bytes (Ok (Taken new repeated))) = true
brings_messages _ = false

abbrev pub any_has_come : List TimedEvent → Bool
any_has_come events = list_any (λ e. brings_messages e.event) events

abbrev pub number_has_come : List TimedEvent → ℕ → Bool
number_has_come events n = list_any (λ e. brings_number n e.event) events

abbrev pub was_passed : List TimedEvent → ℕ → Bool
was_passed events n = list_any (λ e. passes n e.event) events

-- it neither came nor was passed; messages have numbers from 1 on
abbrev pub is_left : List TimedEvent → ℕ → Bool
is_left events n = nat_lt 0 n && not (number_has_come events n || was_passed events n)

-- a skip passed it before it came
abbrev pub is_given_up : List TimedEvent → ℕ → Bool
is_given_up [] n = false
is_given_up (last ∷ earlier) n =
    (passes n last.event && is_left earlier n) || is_given_up earlier n

-- ---- packets that count

abbrev pub packet_heard : LineId → ℕ → ℕ → Option ℕ → TimedPacket
packet_heard line number count time = record {
  line = line;
  number = number;
  count = count;
  time = time;
}

-- a packet of the line past the window
abbrev pub far_with : LineId → Option ℕ → SinkEvent → Option TimedPacket
far_with line time (told_packet venue on number count bytes (Ok Ahead)) =
    if is_same_line on line then Some (packet_heard on number count time) else None
far_with line time _ = None

abbrev pub latest : Option TimedPacket → Option TimedPacket → Option TimedPacket
latest (Some packet) earlier = Some packet
latest None earlier = earlier

-- the line's latest one
abbrev pub far_on : LineId → List TimedEvent → Option TimedPacket
far_on line [] = None
far_on line (last ∷ earlier) =
    latest (far_with line last.time last.event) (far_on line earlier)

-- a packet goes on from an earlier one: it begins at or after its first number, and at most the
-- largest window past its last
abbrev pub goes_on : TimedPacket → ℕ → Bool
goes_on earlier number =
    nat_le earlier.number number
    && nat_le number (count_after (last_number_told earlier.number earlier.count) 65535)

abbrev pub far_that : ℕ → Option TimedPacket → Option TimedPacket
far_that number None = None
far_that number (Some earlier) = if goes_on earlier number then Some earlier else None

-- The packet that counts with an event: its own, unless that was refused, or is past the window.
-- One past the window counts with the line's next one of these, if that goes on from it.
abbrev pub counts_with : List TimedEvent → Option ℕ → SinkEvent → Option TimedPacket
counts_with earlier time (told_packet venue line number count bytes (Ok Ahead)) =
    far_that number (far_on line earlier)
counts_with earlier time (told_packet venue line number count bytes (Ok outcome)) =
    Some (packet_heard line number count time)
counts_with earlier time _ = None

-- a packet is of a line, or of all lines
abbrev pub is_packet_of : GapLine → TimedPacket → Bool
is_packet_of lines.A packet = is_same_line packet.line on.A
is_packet_of lines.B packet = is_same_line packet.line on.B
is_packet_of lines.All packet = true

abbrev pub of_line : GapLine → Option TimedPacket → Option TimedPacket
of_line line None = None
of_line line (Some packet) = if is_packet_of line packet then Some packet else None

-- the packet of a line that counts with an event
abbrev pub counts_on : GapLine → List TimedEvent → TimedEvent → Option TimedPacket
counts_on line earlier last = of_line line (counts_with earlier last.time last.event)

-- a packet of the line counted
abbrev pub has_begun : GapLine → List TimedEvent → Bool
has_begun line [] = false
has_begun line (last ∷ earlier) =
    is_some (counts_on line earlier last) || has_begun line earlier

-- the highest number after a packet
abbrev pub highest_with : ℕ → Option TimedPacket → ℕ
highest_with highest None = highest
highest_with highest (Some packet) = max highest (last_number_told packet.number packet.count)

-- and after a skip: unless the line has begun, or a message came on any, it begins there
abbrev pub highest_skipped : Bool → ℕ → SinkEvent → ℕ
highest_skipped false highest (told_skip venue number (Ok done)) = max highest (number - 1)
highest_skipped stands highest _ = highest

-- A line's beginning stands once a packet of it counted, or a message of its session came: a skip
-- before any message joins the session, a later one moves no beginning.
abbrev pub beginning_stands : GapLine → List TimedEvent → Bool
beginning_stands line events = has_begun line events || any_has_come events

-- the highest number of a line that counts
abbrev pub highest_on : GapLine → List TimedEvent → ℕ
highest_on line [] = 0
highest_on line (last ∷ earlier) =
    highest_with
    (highest_skipped (beginning_stands line earlier) (highest_on line earlier) last.event)
    (counts_on line earlier last)

-- the highest number that a packet tells of
abbrev pub known_number : List TimedEvent → ℕ
known_number [] = 0
known_number (last ∷ earlier) =
    highest_with (known_number earlier) (counts_with earlier last.time last.event)

-- It is missing: a packet that counts tells of it, and it neither came nor was given up.
abbrev pub is_missing_by : ℕ → Bool → Bool → ℕ → Bool
is_missing_by known come passed n =
    nat_lt 0 n && (nat_le n known && not (come || passed))

abbrev pub is_missing : List TimedEvent → ℕ → Bool
is_missing events n = is_missing_by (known_number events) (number_has_come events n)
    (was_passed events n) n
