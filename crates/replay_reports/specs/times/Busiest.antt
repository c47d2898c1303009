-- The busiest period of the clock, of a length in nanoseconds. Of a list of what came the last one
-- stands first.
use Rattle.std.specs.Prelude.{◌≡◌, ℕ, ◌+◌, ◌-◌, ◌%◌, nat_lt, List, [], ◌∷◌, ◌++◌, max, min, flat_map, slice_index_or, slice_set, Option, None, Some, Ok, if◌then◌else◌}
use Rattle.line_arbiter.specs.declared.outcome.Outcome.TheVariants.{Taken}
use Rattle.event_sinks.specs.SinkEvents.{SinkEvent, TimedEvent, told_packet, told_refusal}
use Rattle.feed_types.specs.FullCounts.{count_after}
use Rattle.report_rows.specs.PeriodLists.{begun, entered, entered_place, is_late}
use Rattle.report_rows.specs.declared.kept_periods.KeptPeriod.{KeptPeriod}
use Rattle.replay_reports.specs.declared.times.busiest_period.BusiestPeriod.{BusiestPeriod}
use Rattle.replay_reports.specs.declared.times.busiest_period.Peak.{Peak}

-- messages at a time
pub record MessagesAt : Type 0 where
  pub time : ℕ
  pub messages : ℕ

abbrev pub messages_at : ℕ → ℕ → MessagesAt
messages_at time messages = record { time = time; messages = messages }

-- how many messages of a datagram were taken, or had come before
abbrev pub datagram_messages : SinkEvent → Option ℕ
datagram_messages (told_packet venue line number count bytes (Ok (Taken new repeated))) =
    Some (new + repeated)
datagram_messages (told_packet venue line number count bytes answer) = Some 0
datagram_messages (told_refusal venue line fault) = Some 0
datagram_messages _ = None

abbrev pub messages_by : Option ℕ → Option ℕ → List MessagesAt
messages_by time None = []
messages_by None (Some messages) = []
messages_by (Some time) (Some messages) = messages_at time messages ∷ []

-- of each datagram whose time is known
abbrev pub messages_told : List TimedEvent → List MessagesAt
messages_told events = flat_map (λ e. messages_by e.time (datagram_messages e.event)) events

-- when the period of a time began
abbrev pub begin_of : ℕ → ℕ → ℕ
begin_of length time = time - time % max length 1

-- a period with this many messages more
abbrev pub with_messages : ℕ → KeptPeriod ℕ → KeptPeriod ℕ
with_messages messages p = record p { figures = min (p.figures + messages) 18446744073709551615 }

-- the latest periods once messages came: in their own, or in the earliest one where they are later
-- than that
abbrev pub entered_by : ℕ → MessagesAt → List (KeptPeriod ℕ) → List (KeptPeriod ℕ)
entered_by length last ps = entered (begin_of length last.time) 0 ps

-- the place of the period in which they count, and that period with them
abbrev pub place_in : ℕ → MessagesAt → List (KeptPeriod ℕ) → ℕ
place_in length last ps = entered_place (begin_of length last.time) ps

abbrev pub counts_in : ℕ → MessagesAt → List (KeptPeriod ℕ) → KeptPeriod ℕ
counts_in length last ps =
    with_messages last.messages
    (slice_index_or (entered_by length last ps) (place_in length last ps) (begun 0 0))

-- the latest 16 periods, each with its messages
abbrev pub periods_of : ℕ → List MessagesAt → List (KeptPeriod ℕ)
periods_of length [] = []
periods_of length (last ∷ earlier) =
    slice_set (entered_by length last (periods_of length earlier))
    (place_in length last (periods_of length earlier))
    (counts_in length last (periods_of length earlier))

-- the most messages of a period, and when it began: of several that are as busy the first to be so
abbrev pub most_messages : ℕ → List MessagesAt → ℕ
most_messages length [] = 0
most_messages length (last ∷ earlier) =
    max (most_messages length earlier) (counts_in length last (periods_of length earlier)).figures

abbrev pub began_with : ℕ → KeptPeriod ℕ → Option ℕ → Option ℕ
began_with most p began = if nat_lt most p.figures then Some p.begin else began

abbrev pub busiest_began : ℕ → List MessagesAt → Option ℕ
busiest_began length [] = None
busiest_began length (last ∷ earlier) =
    began_with (most_messages length earlier)
    (counts_in length last (periods_of length earlier)) (busiest_began length earlier)

-- how many datagrams came too late for their period: 16 later ones were kept
abbrev pub late_datagrams : ℕ → List MessagesAt → ℕ
late_datagrams length [] = 0
late_datagrams length (last ∷ earlier) =
    count_after (late_datagrams length earlier)
    (if is_late (begin_of length last.time) (periods_of length earlier) then 1 else 0)

pub record IsPeak (length : ℕ) (came : List MessagesAt) (p : Peak) : Type 0 where
  pub messages : p.messages ≡ most_messages length came
  pub began : p.began ≡ busiest_began length came
  pub late : p.late ≡ late_datagrams length came

-- What is held after these messages.
pub record HoldsBusiest (length : ℕ) (came : List MessagesAt) (b : BusiestPeriod) : Type 0 where
  pub kept : b.kept.kept.items ≡ periods_of length came
  pub messages : b.messages ≡ most_messages length came
  pub began : b.began ≡ busiest_began length came
  pub late : b.kept.late ≡ late_datagrams length came
