-- A sink of rows of gaps prints them.
use Rattle.std.proofs.Common.{◌≡◌, ℕ, List, [], ◌++◌, append-nil, refl, sym, ap, subst, ◌∙◌}
use Rattle.text_out.specs.Devices.{Writing}
use Rattle.event_sinks.specs.SinkEvents.{TimedEvent}
use Rattle.event_sinks.specs.TextPages.{FailsPage}
use Rattle.run_settings.specs.declared.formats.RowFormat.{RowFormat}
use Rattle.gap_rows.specs.GapCells.{gap_names}
use Rattle.gap_rows.specs.GapMakers.{MakesGaps, TellsGaps}
use Rattle.gap_rows.specs.declared.gap_maker.GapMaker.{GapMaker}
use Rattle.report_rows.specs.RowSinks.{FailsRows, TakesRows}
use Rattle.report_rows.specs.RowTexts.{header_text}
use Rattle.report_rows.specs.declared.row_sink.RowSink.{RowSink}
use Rattle.nbbo_runs.specs.Printing.{FailsGaps, IsGapSink, IsGapText, WritesRows, rows_of_gaps}
use Rattle.nbbo_runs.proofs.SinkPrints.{page_failed}

module _ {W : Type 0} (writing : Writing W) (format : RowFormat) (venues : ℕ) (writer : W)
    (old : RowSink W GapMaker) (is : IsGapSink format venues writer old) where
  abbrev header : List ℕ
  header = header_text format gap_names

  gap_text : (told : List TimedEvent) (rows : List ℕ) → TellsGaps old.maker told rows
      → IsGapText format venues told (header ++ rows)
  gap_text told rows tells = record {
    maker = old.maker;
    format_is = is.format_is;
    are_new = is.are_new;
    rows = rows;
    tells = tells;
    is = refl;
  }

  written : (told : List TimedEvent) (new : RowSink W GapMaker)
      → TakesRows MakesGaps writing.adds writing.failures old told new → new.page.text.items ≡ []
      → (text : List ℕ) × IsGapText format venues told text
      × writing.adds writer text new.page.writer
  written told new took none =
      let text = took.text in
      let shown = took.takes.shown in
      let all : header ++ text ≡ shown =
      ap (λ (h : List ℕ). h ++ text) (sym is.is.waits) ∙ took.takes.all
      ∙ ap (λ (l : List ℕ). shown ++ l) none ∙ append-nil shown in (
        header ++ text,
        gap_text told text (record { venues = new.maker.venues.items; takes = took.made.takes }),
        subst (λ (l : List ℕ). writing.adds writer l new.page.writer) (sym all)
            (subst (λ (w : W). writing.adds w shown new.page.writer) is.is.writer_is
            took.takes.wrote),
      )

  stopped : (told : List TimedEvent) (new : RowSink W GapMaker)
      → FailsRows TellsGaps writing.adds writing.failures old told new
      → FailsGaps writing format venues told writer new.page.writer
  stopped told new fails =
      let text = fails.text in
      let failed = page_failed writing writer (header ++ text) old.page new.page is.is.writer_is
      (subst (λ (h : List ℕ). FailsPage writing.adds writing.failures old.page (h ++ text) new.page)
      is.is.waits fails.fails) in
      record {
        first = fails.first;
        rest = fails.rest;
        all = fails.all;
        text = header ++ text;
        is = gap_text fails.first text fails.told;
        wrote = failed.0;
        failed = failed.1;
      }

  pub gaps_write : WritesRows writing MakesGaps TellsGaps (rows_of_gaps format venues) writer old
  gaps_write = record { same = is.is.writer_is; written = written; failed = stopped }
