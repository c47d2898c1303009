-- What is printed of a replay.
use Rattle.std.specs.Prelude.{◌≡◌, ⊤, ℕ, ◌+◌, ◌*◌, Bool, false, List, [], ◌++◌, OnOk, Result, Ok, Err, length, reverse}
use Rattle.std.specs.Result.{result_and}
use Rattle.run_settings.specs.declared.formats.RowFormat.{RowFormat}
use Rattle.best_rows.specs.declared.style.RowStyle.{RowStyle}
use Rattle.feed_text.specs.declared.replay.ReplayConfig.{ReplayConfig}
use Rattle.event_sinks.specs.declared.replay_stop.ReplayStop.{ReplayStop}
use Rattle.event_sinks.specs.declared.replay_stop.ReplayStop.TheVariants.{SinkFailed, NoMemory}
use Rattle.text_out.specs.Devices.{Reading, Writing, Wrote}
use Rattle.feed_text.specs.EventReplays.{AnswersRun, venues_in}
use Rattle.capture_records.specs.Formats.{Parsing}
use Rattle.feed_text.specs.Lacks.{AppendsLacks}
use Rattle.event_sinks.specs.declared.venue_gap.VenueGap.{VenueGap}
use Rattle.feed_text.specs.ReplayStates.{SinkTaking}
use Rattle.feed_text.specs.Replays.{text_told}
use Rattle.event_sinks.specs.SinkEvents.{TimedEvent}
use Rattle.period_rows.specs.BestRows.{text_of_bests}
use Rattle.period_rows.specs.CountRows.{text_of_counts}
use Rattle.period_rows.specs.CountStates.{state_told}
use Rattle.line_gaps.specs.VenueFits.{AreNewGaps}
use Rattle.gap_rows.specs.GapCells.{gap_names}
use Rattle.gap_rows.specs.GapMakers.{TellsGaps}
use Rattle.gap_rows.specs.declared.gap_maker.GapMaker.{GapMaker}
use Rattle.replay_reports.specs.BestRowMakers.{text_of_rows}
use Rattle.report_rows.specs.RowSinks.{FailsRows, IsNewRowSink, TakesRows}
use Rattle.report_rows.specs.RowTexts.{header_text}
use Rattle.report_rows.specs.SpanEvents.{events_in}
use Rattle.report_rows.specs.declared.row_sink.RowSink.{RowSink}
use Rattle.replay_reports.specs.declared.stats.replay_stats.ReplayStats.{ReplayStats}
use Rattle.replay_reports.specs.stats.Statistics.{AreStatsOf}
use Rattle.replay_run.specs.Printed.{facts_of_run}
use Rattle.run_settings.specs.declared.run_output.RunOutput.{RunOutput}
use Rattle.run_settings.specs.declared.run_output.RunOutput.TheVariants.{Lines, Bests, Stats, Gaps, Periods, BestTimes}
use Rattle.run_settings.specs.declared.period_style.PeriodStyle.{PeriodStyle}
use Rattle.run_settings.specs.declared.run_settings.RunSettings.{RunSettings}
use Rattle.run_settings.specs.declared.time_span.TimeSpan.{TimeSpan}
use Rattle.nbbo_runs.specs.AbsentSymbols.{LeavesAbsent}
use Rattle.run_notes.specs.AbsentSymbols.{symbols_with}
use Rattle.nbbo_runs.specs.declared.watched_sink.Missing.{Missing}
use Rattle.nbbo_runs.specs.Kept.{keeping}
use Rattle.nbbo_runs.specs.ReportedGaps.{is_packet_input}

-- A writer takes the text of events; or it takes a front of it, and fails.
abbrev pub printing : {W : Type 0} → Writing W → (List TimedEvent → List ℕ) → SinkTaking W
printing writing text_of = record {
  takes = λ before told after. writing.adds before (text_of told) after;
  fails = λ before told after. Wrote writing.adds before (text_of told) after
      × (writing.failures after ≡ writing.failures before + 1);
}

-- of the events of a replay those of a span, and those before it as such
abbrev pub span_events : TimeSpan → List TimedEvent → List TimedEvent
span_events span told = events_in span false told

-- A sink takes of the events those in a span, and those before it as such.
abbrev pub taking_in : {K : Type 0} → TimeSpan → SinkTaking K → SinkTaking K
taking_in span taking = record {
  takes = λ before told after. taking.takes before (span_events span told) after;
  fails = λ before told after. taking.fails before (span_events span told) after;
}

-- How a replay is printed, for any format of captures: a relation of its settings, of the reader
-- and the format before and after, of the writer before and after, and of the outcome.
abbrev pub Output : (R W : Type 0) → Type 1
Output R W = (S F : Type 0) → Parsing S F → ReplayConfig → (from to : R) (start finish : S)
    (before after : W) → Result (Unit {0}) (ReplayStop F) → Type 0

-- A replay was printed so as it went on: the writer took the events of a run of the machine over
-- what was read.
abbrev pub PrintsEvents : {R W : Type 0} → Reading R → SinkTaking W → Output R W
PrintsEvents reading printed S F parsing config from to start finish before after outcome =
    AnswersRun reading parsing printed (λ output. ⊤) config (facts_of_run config) from to
    start finish before after outcome

-- the same of the events in a span
abbrev pub PrintsRows : {R W : Type 0} → Reading R → SinkTaking W → TimeSpan → Output R W
PrintsRows reading printed span = PrintsEvents reading (taking_in span printed)

-- A sink of rows that was made before a writer: nothing came to its maker, whose rows go by the
-- events before them, and the header waits.
pub record IsSinkBefore {W M C : Type 0} (Are : C → List TimedEvent → M → Type 0)
    (header : List ℕ) (setting : C) (writer : W) (sink : RowSink W M) : Type 0 where
  pub is : IsNewRowSink writer sink.maker header sink
  pub are : Are setting [] sink.maker

-- A sink of rows of gaps of this many venues, of which nothing came, in this format, that was made
-- before a writer.
pub record IsGapSink {W : Type 0} (format : RowFormat) (venues : ℕ) (writer : W)
    (sink : RowSink W GapMaker) : Type 0 where
  pub is : IsNewRowSink writer sink.maker (header_text format gap_names) sink
  pub format_is : sink.maker.format ≡ format
  pub are_new : AreNewGaps venues sink.maker.venues.items

-- ---- statistics

-- A text of this kind was printed whole, or a front of it, up to a call that failed, or nothing,
-- where memory was refused.
abbrev pub PrintsText : {W F : Type 0} (writing : Writing W) (Is : List ℕ → Type 0)
    (before after : W) → Result (Unit {0}) (ReplayStop F) → Type 0
PrintsText writing Is before after (Ok done) =
    (text : List ℕ) × Is text × writing.adds before text after
    × (writing.failures after ≡ writing.failures before)
PrintsText writing Is before after (Err SinkFailed) =
    (text : List ℕ) × Is text × Wrote writing.adds before text after
    × (writing.failures after ≡ writing.failures before + 1)
PrintsText writing Is before after (Err NoMemory) = after ≡ before
PrintsText writing Is before after _ = ⊥

-- A replay was printed at its end, up to a fault too: what the writer took is a text of all events
-- of a run of the machine over what was read. A fault of printing comes before that of the replay.
pub record PrintsFigures {R S F W : Type 0} (reading : Reading R) (writing : Writing W)
    (parsing : Parsing S F) (config : ReplayConfig) (Is : List TimedEvent → List ℕ → Type 0)
    (from to : R) (start finish : S) (before after : W)
    (outcome : Result (Unit {0}) (ReplayStop F)) : Type 0 where
  pub told : List TimedEvent
  pub seen : Result (Unit {0}) (ReplayStop F)
  pub run : AnswersRun reading parsing keeping (λ kept. ⊤)
      config (facts_of_run config) from to start finish [] told seen
  pub printed : Result (Unit {0}) (ReplayStop F)
  pub prints : PrintsText writing (Is told) before after printed
  pub ends : outcome ≡ result_and printed seen

-- The text is printed of statistics of all these events, with times where records have them. How it
-- is laid out isn't said; nothing is printed of a run that failed before anything came.
pub record IsStatsText (config : ReplayConfig) (timed : Bool) (told : List TimedEvent)
    (text : List ℕ) : Type 0 where
  pub stats : ReplayStats
  pub are : AreStatsOf config.window (reverse told ++ []) stats
  pub has_times : stats.has_times ≡ timed
  pub venues : length stats.venues.items ≡ venues_in config

-- ---- what is missing

-- Where a replay came to its end, what its venues lack was appended to what is missing, and the
-- symbols are left in it of which no item came, if that is watched, and the ordinals of the venues'
-- last sessions.
pub record LeavesMissing {R S F : Type 0} (reading : Reading R) (parsing : Parsing S F)
    (config : ReplayConfig) (from to : R) (start finish : S) (before after : Missing)
    (outcome : Result (Unit {0}) (ReplayStop F)) : Type 0 where
  pub gaps : OnOk outcome (AppendsLacks reading parsing config from to start finish
      before.gaps.items after.gaps.items)
  pub absent : OnOk outcome (LeavesAbsent reading parsing config from to start finish outcome
      before.is_watched (symbols_with after.absent config.symbols.now) after.ordinals)

-- A replay was printed by an output, and what is missing at its end was left.
pub record PrintsWatched {R S F W : Type 0} (reading : Reading R) (parsing : Parsing S F)
    (Prints : Output R W) (config : ReplayConfig) (from to : R) (start finish : S)
    (before after : W) (old new : Missing) (outcome : Result (Unit {0}) (ReplayStop F))
    : Type 0 where
  pub prints : Prints S F parsing config from to start finish before after outcome
  pub missing : LeavesMissing reading parsing config from to start finish old new outcome

-- ---- datagrams that are too late

-- how many datagrams of events came in a period before the earliest of the 16 that were kept
abbrev pub late_in : ℕ → List TimedEvent → ℕ
late_in length told = (state_told length (reverse told ++ [])).late

-- The datagrams of events in a span that are too late are counted; of a run whose output failed
-- none is.
abbrev pub counting_late : ℕ → TimeSpan → SinkTaking ℕ
counting_late length span = record {
  takes = λ before told after. after ≡ late_in length (span_events span told);
  fails = λ before told after. after ≡ 0;
}

-- how many of them are told, by the outcome
abbrev pub late_told : {F : Type 0} → Result (Unit {0}) (ReplayStop F) → ℕ → ℕ
late_told (Err SinkFailed) late = 0
late_told _ late = late

-- What is left of the datagrams that were too late for the periods that are printed.
abbrev pub LeavesLate : {R S F : Type 0} (reading : Reading R) (parsing : Parsing S F)
    (config : ReplayConfig) (span : TimeSpan) (from to : R) (start finish : S) (late : ℕ)
    (outcome : Result (Unit {0}) (ReplayStop F)) → RunOutput → Type 0
LeavesLate reading parsing config span from to start finish late outcome (Periods style) =
    AnswersRun reading parsing (counting_late style.length span) (λ late. ⊤) config
    (facts_of_run config) from to start finish 0 late outcome
LeavesLate reading parsing config span from to start finish late outcome _ = late ≡ 0

-- ---- by what is asked for

-- all rows
abbrev pub PrintsAllRows : {R W : Type 0} → Reading R → Writing W → Output R W
PrintsAllRows reading writing = PrintsEvents reading (printing writing text_told)

-- the rows of best lines alone, of the events in a span
abbrev pub PrintsBestRows : {R W : Type 0} → Reading R → Writing W → RowStyle → TimeSpan
    → Output R W
PrintsBestRows reading writing style = PrintsRows reading (printing writing (text_of_rows style))

-- the statistics of the events in a span, `timed` where the records have times
abbrev pub PrintsStatistics : {R W : Type 0} → Reading R → Writing W → Bool → TimeSpan
    → Output R W
PrintsStatistics reading writing timed span S F parsing config =
    PrintsFigures reading writing parsing config
    (λ told. IsStatsText config timed (span_events span told))

-- the header, and then the rows of the gaps that this many venues, of which nothing came before,
-- end at these events
pub record IsGapText (format : RowFormat) (venues : ℕ) (told : List TimedEvent) (text : List ℕ)
    : Type 0 where
  pub maker : GapMaker
  pub format_is : maker.format ≡ format
  pub are_new : AreNewGaps venues maker.venues.items
  pub rows : List ℕ
  pub tells : TellsGaps maker told rows
  pub is : text ≡ header_text format gap_names ++ rows

-- A writer took a front of the text of the gaps of the first events, and then failed.
pub record FailsGaps {W : Type 0} (writing : Writing W) (format : RowFormat) (venues : ℕ)
    (told : List TimedEvent) (before after : W) : Type 0 where
  pub first : List TimedEvent
  pub rest : List TimedEvent
  pub all : told ≡ first ++ rest
  pub text : List ℕ
  pub is : IsGapText format venues first text
  pub wrote : Wrote writing.adds before text after
  pub failed : writing.failures after ≡ writing.failures before + 1

-- A writer takes the text of the gaps of this many venues at events; or it fails.
abbrev pub printing_gaps : {W : Type 0} → Writing W → RowFormat → ℕ → SinkTaking W
printing_gaps writing format venues = record {
  takes = λ before told after.
      (text : List ℕ) × IsGapText format venues told text × writing.adds before text after;
  fails = λ before told after. FailsGaps writing format venues told before after;
}

-- the rows that a sink prints: a text of events, or the rows of the gaps of so many venues
pub data PrintedRows : Type 0 where
  rows_of_text : (List TimedEvent → List ℕ) → PrintedRows
  rows_of_gaps : RowFormat → ℕ → PrintedRows

abbrev pub printing_rows : {W : Type 0} → Writing W → PrintedRows → SinkTaking W
printing_rows writing (rows_of_text text_of) = printing writing text_of
printing_rows writing (rows_of_gaps format venues) = printing_gaps writing format venues

-- A new sink prints these rows: where it shows all that it took, the writer took them, and where it
-- failed, the writer did.
pub record WritesRows {W M : Type 0} (writing : Writing W)
    (makes : M → List TimedEvent → List ℕ → M → Type 0)
    (tells : M → List TimedEvent → List ℕ → Type 0) (rows : PrintedRows)
    (writer : W) (sink : RowSink W M) : Type 0 where
  pub same : sink.page.writer ≡ writer
  pub written : (told : List TimedEvent) (after : RowSink W M)
      → TakesRows makes writing.adds writing.failures sink told after
      → after.page.text.items ≡ []
      → (printing_rows writing rows).takes writer told after.page.writer
  pub failed : (told : List TimedEvent) (after : RowSink W M)
      → FailsRows tells writing.adds writing.failures sink told after
      → (printing_rows writing rows).fails writer told after.page.writer

-- the rows of the gaps of all venues at the events in a span
abbrev pub PrintsGapRows : {R W : Type 0} → Reading R → Writing W → RowFormat → TimeSpan
    → Output R W
PrintsGapRows reading writing format span S F parsing config =
    PrintsRows reading (printing_gaps writing format (venues_in config)) span S F parsing config

-- the rows of the periods in a span
abbrev pub PrintsPeriods : {R W : Type 0} → Reading R → Writing W → PeriodStyle → TimeSpan
    → Output R W
PrintsPeriods reading writing style span S F parsing config =
    PrintsRows reading (printing writing
    (text_of_counts (record { style = style; lines = 2 * venues_in config }))) span S F parsing
    config

-- the rows of how long national bests stood in the periods of a span
abbrev pub PrintsBestTimes : {R W : Type 0} → Reading R → Writing W → PeriodStyle → TimeSpan
    → Output R W
PrintsBestTimes reading writing style span S F parsing config =
    PrintsRows reading (printing writing
    (text_of_bests (record {
      style = style;
      venues = venues_in config;
      symbols = config.symbols.now;
      from = span.from;
    }))) span S F parsing config

-- The output that is asked for. Rows of best lines and statistics are `timed` where the records
-- have times.
abbrev pub output_of : {R W : Type 0} → Reading R → Writing W → (timed : Bool)
    → TimeSpan → RunOutput → Output R W
output_of reading writing timed span Lines = PrintsAllRows reading writing
output_of reading writing timed span (Bests format) =
    PrintsBestRows reading writing (record { format = format; timed = timed }) span
output_of reading writing timed span (Stats format) = PrintsStatistics reading writing timed span
output_of reading writing timed span (Gaps format) = PrintsGapRows reading writing format span
output_of reading writing timed span (Periods style) = PrintsPeriods reading writing style span
output_of reading writing timed span (BestTimes style) =
    PrintsBestTimes reading writing style span

-- the output that the settings ask for
abbrev pub output_asked : {R W : Type 0} → Reading R → Writing W → RunSettings → Output R W
output_asked reading writing settings =
    output_of reading writing (is_packet_input settings.input) settings.span settings.output

-- the settings as a replay takes them; it makes at most 1,000,000,000 calls of the reader
pub record IsConfigOf (settings : RunSettings) (config : ReplayConfig) : Type 0 where
  pub sessions : config.sessions.now ≡ settings.feed.sessions.items
  pub symbols : config.symbols.now ≡ settings.feed.symbols.items
  pub window : config.window ≡ settings.feed.window
  pub journal : config.journal ≡ settings.feed.journal
  pub gaps : config.gaps ≡ settings.gaps
  pub skips : config.skips ≡ settings.skips
  pub next : config.next_sessions.now ≡ settings.next_sessions.items
  pub turns : config.turns ≡ 1000000000

-- A capture was replayed with these settings, and printed by an output. Where it came to its end,
-- what its venues lack was appended to a list, these are the symbols of which no item came, if that
-- is watched, and these the ordinals of the venues' last sessions. So many datagrams were too late
-- for the periods that were kept.
pub record PrintsAsked {R S F W : Type 0} (reading : Reading R) (parsing : Parsing S F)
    (Prints : Output R W) (settings : RunSettings) (is_watched : Bool) (from to : R)
    (start finish : S) (before after : W) (old new : List VenueGap) (absent : List (List ℕ))
    (ordinals : List ℕ) (late : ℕ) (outcome : Result (Unit {0}) (ReplayStop F)) : Type 0 where
  pub config : ReplayConfig
  pub is : IsConfigOf settings config
  pub prints : Prints S F parsing config from to start finish before after outcome
  pub gaps : OnOk outcome (AppendsLacks reading parsing config from to start finish old new)
  pub absent_are : OnOk outcome
      (LeavesAbsent reading parsing config from to start finish outcome is_watched absent
      ordinals)
  pub late_is : LeavesLate reading parsing config settings.span from to start finish late outcome
      settings.output
