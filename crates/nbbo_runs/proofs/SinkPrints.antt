-- A replay to a sink that writes a text of events prints it.
use Rattle.std.proofs.Common.{◌≡◌, ℕ, ◌+◌, List, [], ◌∷◌, ◌++◌, Ok, Err, append-nil, ap, refl, sym, subst, ◌∙◌}
use Rattle.std.specs.Prelude.{⊤, IfOk, Result, flat_map}
use Rattle.feed_text.specs.declared.replay.ReplayConfig.{ReplayConfig}
use Rattle.event_sinks.specs.declared.replay_stop.ReplayStop.{ReplayStop}
use Rattle.event_sinks.specs.declared.text_page.TextPage.{TextPage}
use Rattle.text_out.specs.Devices.{Reading, Writing, Wrote}
use Rattle.feed_text.specs.EventReplays.{AnswersRun}
use Rattle.capture_records.specs.Formats.{Parsing}
use Rattle.feed_text.specs.Replays.{text_told}
use Rattle.feed_text.specs.ReplayStates.{SinkTaking}
use Rattle.event_sinks.specs.SinkEvents.{TimedEvent}
use Rattle.event_sinks.specs.EventLines.{timed_line}
use Rattle.event_sinks.specs.TextPages.{FailsPage, FailsText, TakesText}
use Rattle.best_rows.specs.declared.style.RowStyle.{RowStyle}
use Rattle.best_rows.specs.RowTexts.{event_row, header_of}
use Rattle.replay_reports.specs.BestRowMakers.{IsInStyle, style_rows, text_of_rows}
use Rattle.replay_reports.specs.declared.best_row_maker.BestRowMaker.{BestRowMaker}
use Rattle.report_rows.specs.RowHistories.{MakesHistory, TellsHistory, rows_told}
use Rattle.report_rows.specs.RowHistoryLaws.{rows_are_written, rows_failed}
use Rattle.report_rows.specs.RowSinks as sinks
use Rattle.report_rows.specs.declared.row_sink.RowSink.{RowSink}
use Rattle.replay_run.specs.Printed.{facts_of_run}
use Rattle.run_settings.specs.declared.time_span.TimeSpan.{TimeSpan}
use Rattle.nbbo_runs.specs.Printing.{IsSinkBefore, PrintedRows, PrintsAllRows, PrintsRows, WritesRows, printing, printing_rows, rows_of_text, span_events, taking_in}
use Rattle.nbbo_runs.proofs.SinkRuns.{run_as}

-- Of a sink before a writer: where it shows all that it took, the writer took that; where it
-- failed, the writer did.
pub record WritesSink {K W : Type 0} (taking : SinkTaking K) (Shown : K → Type 0)
    (writer_of : K → W) (printed : SinkTaking W) (writer : W) (old new : K) : Type 0 where
  pub same : writer_of old ≡ writer
  pub written : (told : List TimedEvent) → taking.takes old told new → Shown new
      → printed.takes writer told (writer_of new)
  pub failed : (told : List TimedEvent) → taking.fails old told new
      → printed.fails writer told (writer_of new)

-- a replay to such a sink, of the events in a span
pub span_prints : {R S F W K : Type 0} (reading : Reading R) (parsing : Parsing S F)
    (config : ReplayConfig) (from to : R) (start finish : S)
    (outcome : Result (Unit {0}) (ReplayStop F)) (span : TimeSpan) (taking : SinkTaking K)
    {Shown : K → Type 0} {writer_of : K → W} (printed : SinkTaking W) {writer : W} (old new : K)
    → WritesSink taking Shown writer_of printed writer old new
    → AnswersRun reading parsing (taking_in span taking) Shown config
    (facts_of_run config) from to start finish old new outcome
    → PrintsRows reading printed span S F parsing config from to start finish writer (writer_of new)
    outcome
span_prints reading parsing config from to start finish outcome span taking {Shown} {writer_of}
    printed {writer} old new writes run =
    run_as reading parsing config (facts_of_run config) (taking_in span taking) Shown
    (taking_in span printed) (λ output. ⊤) old new writer (writer_of new) (record {
      took = λ told took. (writes.written (span_events span told) took.0 took.1, tt);
      failed = λ told failed. writes.failed (span_events span told) failed;
      same = λ kept. ap writer_of kept ∙ writes.same;
    }) from to start finish outcome run

-- ---- of each sink

module _ {W : Type 0} (writing : Writing W) where
  pub page_failed : (writer : W) (text : List ℕ) (p q : TextPage W) → p.writer ≡ writer
      → FailsPage writing.adds writing.failures p text q
      → Wrote writing.adds writer text q.writer
      × (writing.failures q.writer ≡ writing.failures writer + 1)
  page_failed writer text p q same failed = (
    subst (λ (w : W). Wrote writing.adds w text q.writer) same failed.wrote,
    subst (λ (w : W). writing.failures q.writer ≡ writing.failures w + 1) same failed.failed,
  )

  -- a sink of lines before a writer, where nothing waits
  pub lines_print : {R S F K : Type 0} (reading : Reading R) (parsing : Parsing S F)
      (config : ReplayConfig) (from to : R) (start finish : S)
      (outcome : Result (Unit {0}) (ReplayStop F)) (page_of : K → TextPage W) (writer : W)
      (old new : K) → (page_of old).writer ≡ writer → (page_of old).text.items ≡ []
      → AnswersRun reading parsing (record {
        takes = λ s told t.
            TakesText timed_line writing.adds writing.failures (page_of s) told (page_of t);
        fails = λ s told t.
            FailsText timed_line writing.adds writing.failures (page_of s) told (page_of t);
      }) (λ s. (page_of s).text.items ≡ []) config (facts_of_run config) from to start finish old
      new outcome
      → PrintsAllRows reading writing S F parsing config from to start finish writer
      (page_of new).writer outcome
  lines_print {R} {S} {F} {K} reading parsing config from to start finish outcome page_of writer
      old new same none run =
      let p = page_of old in
      let q = page_of new in
      run_as reading parsing config (facts_of_run config) (record {
        takes = λ s told t.
            TakesText timed_line writing.adds writing.failures (page_of s) told (page_of t);
        fails = λ s told t.
            FailsText timed_line writing.adds writing.failures (page_of s) told (page_of t);
      }) (λ s. (page_of s).text.items ≡ []) (printing writing text_told) (λ output. ⊤) old new
      writer q.writer (record {
        took = λ told took.
            let text = text_told told in
            let shown = took.0.shown in
            let all : text ≡ shown =
            ap (λ (l : List ℕ). l ++ text) (sym none) ∙ took.0.all
            ∙ ap (λ (l : List ℕ). shown ++ l) took.1 ∙ append-nil shown in (
              subst (λ (l : List ℕ). writing.adds writer l q.writer) (sym all)
                  (subst (λ (w : W). writing.adds w shown q.writer) same took.0.wrote),
              tt,
            );
        failed = λ told failed.
            page_failed writer (text_told told) p q same
            (subst (λ (l : List ℕ). FailsPage writing.adds writing.failures p
            (l ++ text_told told) q) none failed);
        same = λ kept. ap (λ (k : K). (page_of k).writer) kept ∙ same;
      }) from to start finish outcome run

  -- a sink of rows of a maker
  module _ {M : Type 0} (makes : M → List TimedEvent → List ℕ → M → Type 0)
      (tells : M → List TimedEvent → List ℕ → Type 0) where
    abbrev pub sink_taking : SinkTaking (RowSink W M)
    sink_taking = record {
      takes = sinks.TakesRows makes writing.adds writing.failures;
      fails = sinks.FailsRows tells writing.adds writing.failures;
    }

    pub sink_writes : (kind : PrintedRows) (writer : W) (old new : RowSink W M)
        → WritesRows writing makes tells kind writer old
        → WritesSink sink_taking (λ s. s.page.text.items ≡ []) (λ s. s.page.writer)
        (printing_rows writing kind) writer old new
    sink_writes kind writer old new is = record {
      same = is.same;
      written = λ told took shown. is.written told new took shown;
      failed = λ told failed. is.failed told new failed;
    }

  -- one whose rows go by the events before them
  pub history_writes : {M C : Type 0} (Are : C → List TimedEvent → M → Type 0)
      (rows : C → TimedEvent → List TimedEvent → List ℕ) (header : List ℕ) (setting : C)
      (writer : W) (sink : RowSink W M) → IsSinkBefore Are header setting writer sink
      → WritesRows writing (MakesHistory Are rows) (TellsHistory Are rows)
      (rows_of_text (λ told. header ++ rows_told (rows setting) [] told)) writer sink
  history_writes Are rows header setting writer sink is = record {
    same = is.is.writer_is;
    written = λ told after took shown.
        rows_are_written Are rows writing.adds writing.failures writer sink.maker header setting
        sink after told is.is is.are took shown;
    failed = λ told after failed.
        page_failed writer (header ++ rows_told (rows setting) [] told) sink.page after.page
        is.is.writer_is
        (rows_failed Are rows writing.adds writing.failures writer sink.maker header setting sink
        after told is.is is.are failed);
  }

  rows_alone : (style : RowStyle) (earlier events : List TimedEvent)
      → rows_told (style_rows style) earlier events ≡ flat_map (event_row style) events
  rows_alone style earlier [] = refl
  rows_alone style earlier (e ∷ es) =
      ap (λ (l : List ℕ). event_row style e ++ l) (rows_alone style (e ∷ earlier) es)

  -- one of the rows of national bests
  pub bests_write : (style : RowStyle) (writer : W) (sink : RowSink W BestRowMaker)
      → IsSinkBefore IsInStyle (header_of style.format style.timed) style writer sink
      → WritesRows writing (MakesHistory IsInStyle style_rows) (TellsHistory IsInStyle style_rows)
      (rows_of_text (text_of_rows style)) writer sink
  bests_write style writer sink is =
      let header = header_of style.format style.timed in
      let history = history_writes IsInStyle style_rows header style writer sink is in
      record {
        same = history.same;
        written = λ told after took shown.
            subst (λ (rows : List ℕ). writing.adds writer (header ++ rows) after.page.writer)
            (rows_alone style [] told) (history.written told after took shown);
        failed = λ told after failed.
            subst (λ (rows : List ℕ). Wrote writing.adds writer (header ++ rows) after.page.writer
            × (writing.failures after.page.writer ≡ writing.failures writer + 1))
            (rows_alone style [] told) (history.failed told after failed);
      }

-- of a sink that was made before the output, if it was
pub made_writes : {W M : Type 0} {Is Other : RowSink W M → Type 0} (made : Result (RowSink W M) W)
    → ((sink : RowSink W M) → Is sink → Other sink) → IfOk made Is → IfOk made Other
made_writes (Ok sink) each is = each sink is
made_writes (Err back) each is = tt
