-- What is counted of events in the periods of the clock. Of a list of events the last one stands
-- first.
use Rattle.std.specs.Prelude.{ℕ, Bool, true, false, List, [], ◌∷◌, Option, None, Some, option_map, replicate, slice_index_or, slice_set, if◌then◌else◌}
use Rattle.feed_types.specs.FullCounts.{count_after}
use Rattle.event_sinks.specs.SinkEvents.{SinkEvent, TimedEvent, told_packet, told_refusal}
use Rattle.report_rows.specs.PeriodLists.{begun, entered, entered_place, is_late}
use Rattle.report_rows.specs.SpanEvents.{ends_all}
use Rattle.report_rows.specs.declared.kept_periods.KeptPeriod.{KeptPeriod}
use Rattle.period_rows.specs.LineFigures.{figures_after, no_figures}
use Rattle.period_rows.specs.Periods.{period_begin}
use Rattle.period_rows.specs.Sequences.{line_place, no_sequence, passed_over, sequences_after}
use Rattle.period_rows.specs.declared.line_figures.LineFigures.{LineFigures}
use Rattle.period_rows.specs.declared.line_sequence.LineSequence.{LineSequence}

-- ---- a datagram

abbrev pub is_datagram : SinkEvent → Bool
is_datagram (told_packet venue line number count bytes answer) = true
is_datagram (told_refusal venue line fault) = true
is_datagram _ = false

-- the place of the line that it came on
abbrev pub datagram_line : SinkEvent → Option ℕ
datagram_line (told_packet venue line number count bytes answer) = line_place venue line
datagram_line (told_refusal venue line fault) = line_place venue line
datagram_line _ = None

-- its period, where its time is known
abbrev pub own_begin : ℕ → TimedEvent → Option ℕ
own_begin length e =
    if is_datagram e.event then option_map (period_begin length) e.time else None

-- ---- what it adds

-- to the figures of lines: one more on its own, by the numbers that the lines brought before
abbrev pub counted_at : List LineFigures → List LineSequence → SinkEvent → ℕ → List LineFigures
counted_at fs ss event place =
    slice_set fs place (figures_after (slice_index_or fs place no_figures)
    (passed_over (slice_index_or ss place no_sequence) event) event)

abbrev pub counted_in : List LineFigures → List LineSequence → SinkEvent → Option ℕ
    → List LineFigures
counted_in fs ss event None = fs
counted_in fs ss event (Some place) = counted_at fs ss event place

abbrev pub CountPeriod : Type 0
CountPeriod = KeptPeriod (List LineFigures)

abbrev pub no_lines : List LineFigures
no_lines = replicate 32 no_figures

-- to the periods: it counts in the one at a place
abbrev pub counted_period : List CountPeriod → ℕ → List LineSequence → SinkEvent
    → List CountPeriod
counted_period ps place ss event =
    let period = slice_index_or ps place (begun 0 no_lines) in
    slice_set ps place (record period {
      figures = counted_in period.figures ss event (datagram_line event);
    })

-- ---- what is kept after events

-- the numbers of lines, the periods, and how many datagrams were later than 16 of these
pub record CountState : Type 0 where
  pub sequences : List LineSequence
  pub periods : List CountPeriod
  pub late : ℕ

-- a datagram counts in its own period, or in the earliest one where it is late
abbrev pub counted_begin : ℕ → List LineSequence → List CountPeriod → SinkEvent
    → List CountPeriod
counted_begin begin ss ps event =
    counted_period (entered begin no_lines ps) (entered_place begin ps) ss event

abbrev pub periods_by : Option ℕ → CountState → SinkEvent → List CountPeriod
periods_by None s event = s.periods
periods_by (Some begin) s event = counted_begin begin s.sequences s.periods event

abbrev pub late_by : Option ℕ → CountState → ℕ
late_by None s = s.late
late_by (Some begin) s = count_after s.late (if is_late begin s.periods then 1 else 0)

-- after one more: it counts in its own period while that is one of the 16 latest, else in the
-- earliest one of them; once the capture is over none is kept
abbrev pub state_after : ℕ → CountState → TimedEvent → CountState
state_after length s e = record {
  sequences = sequences_after s.sequences e.event;
  periods = if ends_all e.event then [] else periods_by (own_begin length e) s e.event;
  late = late_by (own_begin length e) s;
}

abbrev pub state_told : ℕ → List TimedEvent → CountState
state_told length [] = record { sequences = replicate 32 no_sequence; periods = []; late = 0 }
state_told length (e ∷ earlier) = state_after length (state_told length earlier) e
