-- How a venue's packets run in time, by the timed events of the venue. Of a list of events the last
-- one stands first. A packet whose time isn't known has no part in this.
use Rattle.std.specs.Prelude.{ℕ, Bool, true, false, List, [], ◌∷◌, ◌++◌, Option, None, Some, Ok, if◌then◌else◌}
use Rattle.feed_types.specs.declared.line.LineId.{LineId}
use Rattle.feed_types.specs.declared.line.LineId.TheVariants.{A, B, Recovery}
use Rattle.feed_types.specs.declared.per_line.PerLine.{PerLine}
use Rattle.line_arbiter.specs.declared.outcome.Outcome.TheVariants.{Taken, Ahead}
use Rattle.line_arbiter.specs.Streams.{is_same_line}
use Rattle.event_sinks.specs.SinkEvents.{SinkEvent, TimedEvent, told_packet, told_renewal}
use Rattle.replay_reports.specs.times.Leads.{MessageOn, come_on, first_of_two, has_numbers, leads_of}

-- ---- which line is first

-- what came once a packet's messages came at this time
abbrev pub come_by : LineId → ℕ → ℕ → Option ℕ → List MessageOn → List MessageOn
come_by line number count None came = came
come_by line number count (Some time) came =
    if has_numbers number count then come_on line number count time came else came

-- the messages of the present session that lines A and B brought, after one more event: those of a
-- packet that is taken, or past the window
abbrev pub came_after : Option ℕ → SinkEvent → List MessageOn → List MessageOn
came_after time (told_packet venue line number count bytes (Ok (Taken new repeated))) came =
    come_by line number count time came
came_after time (told_packet venue line number count bytes (Ok Ahead)) came =
    come_by line number count time came
came_after time (told_renewal venue (Ok ordinal)) came = []
came_after time _ came = came

abbrev pub came_of : List TimedEvent → List MessageOn
came_of [] = []
came_of (last ∷ earlier) = came_after last.time last.event (came_of earlier)

-- a next session begins
abbrev pub begins_session : SinkEvent → Bool
begins_session (told_renewal venue (Ok ordinal)) = true
begins_session _ = false

-- the leads in the sessions before the present one
abbrev pub leads_before : ℕ → LineId → LineId → List TimedEvent → List ℕ
leads_before window first second [] = []
leads_before window first second (last ∷ earlier) =
    (if begins_session last.event then leads_of window first second (came_of earlier) else [])
    ++ leads_before window first second earlier

-- how long the second line took, of each message that the first one had brought before
abbrev pub leads_told : ℕ → LineId → LineId → List TimedEvent → List ℕ
leads_told window first second events =
    leads_of window first second (came_of events) ++ leads_before window first second events

-- ---- when the last packets came

-- the time of a packet of the line that wasn't refused
abbrev pub packet_time : LineId → Option ℕ → SinkEvent → Option ℕ
packet_time line time (told_packet venue on number count bytes (Ok outcome)) =
    if is_same_line on line then time else None
packet_time line time _ = None

abbrev pub last_time : LineId → List TimedEvent → Option ℕ
last_time line [] = None
last_time line (last ∷ earlier) =
    first_of_two (packet_time line last.time last.event) (last_time line earlier)

abbrev pub last_packets : List TimedEvent → PerLine (Option ℕ)
last_packets events = record {
  a = last_time A events;
  b = last_time B events;
  recovery = last_time Recovery events;
}
