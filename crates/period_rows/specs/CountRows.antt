-- The rows of what lines brought in periods of the clock.
use Rattle.std.specs.Prelude.{◌≡◌, ℕ, ◌-◌, ◌/◌, ◌%◌, ◌==◌, List, [], ◌∷◌, ◌++◌, codes, length, Option, None, Some, slice_index_or, if◌then◌else◌}
use Rattle.event_sinks.specs.SinkEvents.{TimedEvent}
use Rattle.run_settings.specs.declared.formats.RowFormat.{RowFormat}
use Rattle.run_settings.specs.declared.formats.RowFormat.TheVariants.{Csv, Json}
use Rattle.run_settings.specs.declared.period_style.PeriodStyle.{PeriodStyle}
use Rattle.report_rows.specs.FirstTexts.{first_texts}
use Rattle.report_rows.specs.PeriodLists.{begun, over_with}
use Rattle.report_rows.specs.RowHistories.{MakesHistory, TellsHistory, rows_told}
use Rattle.report_rows.specs.RowTexts.{CellValue, count, header_text, row_text, time, venue_at, word}
use Rattle.report_rows.specs.SpanEvents.{ends_all}
use Rattle.period_rows.specs.CountStates.{CountPeriod, CountState, own_begin, state_after, state_told}
use Rattle.period_rows.specs.LineFigures.{no_figures}
use Rattle.period_rows.specs.declared.count_maker.PeriodCounter.{PeriodCounter}
use Rattle.period_rows.specs.declared.line_figures.LineFigures.{LineFigures}

-- ---- a row

abbrev pub figure_names : List (List ℕ)
figure_names =
    codes "packets" ∷ codes "bytes" ∷ codes "messages" ∷ codes "first" ∷ codes "missing" ∷ []

-- the columns: of an object the time stands last
abbrev pub count_names : RowFormat → List (List ℕ)
count_names (Csv style) = codes "time" ∷ codes "venue" ∷ codes "line" ∷ figure_names
count_names (Json style) =
    codes "venue" ∷ codes "line" ∷ codes "packets" ∷ codes "bytes" ∷ codes "messages"
    ∷ codes "first" ∷ codes "missing" ∷ codes "time" ∷ []

abbrev pub line_word : ℕ → List ℕ
line_word place = if place % 2 == 0 then codes "A" else codes "B"

-- the cells of the line at a place, of the period that began then
abbrev pub count_values : RowFormat → ℕ → ℕ → LineFigures → List CellValue
count_values (Csv style) begin place f =
    time (Some begin) ∷ venue_at (place / 2) ∷ word (line_word place) ∷ count f.packets
    ∷ count f.bytes ∷ count f.messages ∷ count f.first ∷ count f.missing ∷ []
count_values (Json style) begin place f =
    venue_at (place / 2) ∷ word (line_word place) ∷ count f.packets ∷ count f.bytes
    ∷ count f.messages ∷ count f.first ∷ count f.missing ∷ time (Some begin) ∷ []

abbrev pub count_line_row : RowFormat → ℕ → ℕ → LineFigures → List ℕ
count_line_row format begin place f =
    row_text format (count_names format) (count_values format begin place f)

-- ---- the rows of periods, of this many lines each

abbrev pub row_in : RowFormat → CountPeriod → ℕ → List ℕ
row_in format period place =
    count_line_row format period.begin place (slice_index_or period.figures place no_figures)

abbrev pub period_text : RowFormat → ℕ → CountPeriod → List ℕ
period_text format lines period = first_texts (row_in format period) lines

abbrev pub over_text : RowFormat → ℕ → Option CountPeriod → List ℕ
over_text format lines None = []
over_text format lines (Some period) = period_text format lines period

-- those of the period at a place, from the earliest one on: of what is kept the latest stands first
abbrev pub text_at : RowFormat → ℕ → List CountPeriod → ℕ → List ℕ
text_at format lines ps place =
    period_text format lines (slice_index_or ps (length ps - 1 - place) (begun 0 []))

abbrev pub periods_text : RowFormat → ℕ → List CountPeriod → List ℕ
periods_text format lines ps = first_texts (text_at format lines ps) (length ps)

-- ---- the rows of events

-- how rows are written, and of how many lines
pub record CountSetting : Type 0 where
  pub style : PeriodStyle
  pub lines : ℕ

-- the rows that a datagram ends: those of the period that leaves the 16 latest with it
abbrev pub left_text : RowFormat → ℕ → Option ℕ → List CountPeriod → List ℕ
left_text format lines None ps = []
left_text format lines (Some begin) ps = over_text format lines (over_with begin ps)

abbrev pub text_by : PeriodStyle → ℕ → List CountPeriod → TimedEvent → List ℕ
text_by style lines ps e =
    if ends_all e.event then periods_text style.format lines ps
    else left_text style.format lines (own_begin style.length e) ps

-- those of an event after these: at the end of the capture those of all periods that are kept
abbrev pub count_rows_with : CountSetting → TimedEvent → List TimedEvent → List ℕ
count_rows_with setting e earlier =
    text_by setting.style setting.lines (state_told setting.style.length earlier).periods e

-- the header, and the rows of all events
abbrev pub text_of_counts : CountSetting → List TimedEvent → List ℕ
text_of_counts setting events =
    header_text setting.style.format (count_names setting.style.format)
    ++ rows_told (count_rows_with setting) [] events

-- ---- what makes them

-- it writes as the setting says, and what it keeps is of events
pub record ArePeriodCounts (setting : CountSetting) (events : List TimedEvent) (m : PeriodCounter)
    : Type 0 where
  pub style : m.style ≡ setting.style
  pub lines : m.lines ≡ setting.lines
  pub sequences : m.sequences ≡ (state_told setting.style.length events).sequences
  pub periods : m.periods.kept.items ≡ (state_told setting.style.length events).periods
  pub late : m.periods.late ≡ (state_told setting.style.length events).late

abbrev pub MakesCounts : PeriodCounter → List TimedEvent → List ℕ → PeriodCounter → Type 0
MakesCounts = MakesHistory ArePeriodCounts count_rows_with

abbrev pub TellsCounts : PeriodCounter → List TimedEvent → List ℕ → Type 0
TellsCounts = TellsHistory ArePeriodCounts count_rows_with

-- ---- only private clauses cite these

abbrev pub count_state_of : PeriodCounter → CountState
count_state_of m = record {
  sequences = m.sequences;
  periods = m.periods.kept.items;
  late = m.periods.late;
}

abbrev pub made_text : PeriodCounter → TimedEvent → List ℕ
made_text m e = text_by m.style m.lines m.periods.kept.items e

pub record IsCounted (old : PeriodCounter) (e : TimedEvent) (new : PeriodCounter) : Type 0 where
  pub style : new.style ≡ old.style
  pub lines : new.lines ≡ old.lines
  pub sequences : new.sequences ≡ (state_after old.style.length (count_state_of old) e).sequences
  pub periods : new.periods.kept.items
      ≡ (state_after old.style.length (count_state_of old) e).periods
  pub late : new.periods.late ≡ (state_after old.style.length (count_state_of old) e).late
