use Rattle.std.proofs.Common.{◌≡◌, [], refl, ◌∙◌}
use Rattle.std.specs.Prelude.{◌*◌}
use Rattle.text_out.specs.Devices.{Reading, Writing}
use Rattle.text_out.specs.Members.{reading_of, writing_of}
use Rattle.feed_text.specs.EventReplays.{venues_in}
use Rattle.capture_records.specs.Formats.{Parsing}
use Rattle.report_rows.specs.RowTexts.{header_text}
use Rattle.replay_run.specs.Printed.{facts_of_run}
use Rattle.period_rows.specs.CountRows.{ArePeriodCounts, CountSetting, MakesCounts, TellsCounts, count_names, count_rows_with, text_of_counts}
use Rattle.nbbo_runs.specs.Printing.{printing_rows, rows_of_text, taking_in}
use Rattle.nbbo_runs.proofs.LateRuns.{late_of_run}
use Rattle.nbbo_runs.proofs.SinkPrints.{history_writes, sink_taking, sink_writes, span_prints}
use Rattle.nbbo_runs.proofs.printing.print_periods.Goals as goal

pub returns-in-Ok-clause-printed : goal.returns-in-Ok-clause-printed
returns-in-Ok-clause-printed g c =
    let reading : Reading g.row.R.Denot = reading_of g.R.CaptureIn in
    let parsing : Parsing g.row.F.Denot g.row.F-Fault.Denot = record {
      reads = g.F.RecordFormat.reads;
      wants = g.F.RecordFormat.wants;
      is_bad = g.F.RecordFormat.is_bad;
      is_whole = g.F.RecordFormat.is_whole;
    } in
    let writing : Writing g.row.W.Denot = writing_of g.W.TextOut in
    let config = c.args.config.now.replay in
    let style = c.args.style in
    let setting : CountSetting = record { style = style; lines = 2 * venues_in config } in
    let kind = rows_of_text (text_of_counts setting) in
    let rows = c.in-Ok.rows in
    let replayed = c.replay_in_span-replayed in
    rw c.into_writer.ensures (record {
      prints = span_prints reading parsing config _ _ _ _ replayed.result.outcome
          c.args.config.now.span (sink_taking writing MakesCounts TellsCounts)
          (printing_rows writing kind) rows
          replayed.result.sink
          (sink_writes writing MakesCounts TellsCounts kind c.args.output rows
          replayed.result.sink
          (history_writes writing ArePeriodCounts count_rows_with
          (header_text style.format (count_names style.format)) setting c.args.output rows
          c.in-Ok.ensures.rows))
          replayed.ensures.run;
      missing = replayed.ensures.missing;
    })

pub returns-in-Ok-clause-late : goal.returns-in-Ok-clause-late
returns-in-Ok-clause-late g c =
    let reading : Reading g.row.R.Denot = reading_of g.R.CaptureIn in
    let parsing : Parsing g.row.F.Denot g.row.F-Fault.Denot = record {
      reads = g.F.RecordFormat.reads;
      wants = g.F.RecordFormat.wants;
      is_bad = g.F.RecordFormat.is_bad;
      is_whole = g.F.RecordFormat.is_whole;
    } in
    let writing : Writing g.row.W.Denot = writing_of g.W.TextOut in
    let config = c.args.config.now.replay in
    let span = c.args.config.now.span in
    let style = c.args.style in
    let setting : CountSetting = record { style = style; lines = 2 * venues_in config } in
    let rows = c.in-Ok.rows in
    let are = c.in-Ok.ensures.rows.are in
    let replayed = c.replay_in_span-replayed in
    rw (c.late_told-late.ensures, c.late.ensures)
    (late_of_run reading parsing config (facts_of_run config)
    (taking_in span (sink_taking writing MakesCounts TellsCounts)) (λ s. s.page.text.items ≡ [])
    style.length span (λ s. s.maker.periods.late) rows replayed.result.sink are.late
    (λ told took. (took.made.are setting [] are).late) _ _ _ _ replayed.result.outcome
    replayed.ensures.run)

pub returns-in-Err-clause-printed : goal.returns-in-Err-clause-printed
returns-in-Err-clause-printed g c =
    rw (c.without_periods.ensures, c.without_memory.ensures.outcome) (record {
      prints = (refl, refl, c.without_memory.ensures.output ∙ c.in-Err.ensures.refused);
      missing = record { gaps = tt; absent = tt };
    })

pub returns-in-Err-clause-late : goal.returns-in-Err-clause-late
returns-in-Err-clause-late g c =
    rw (c.without_periods.ensures, c.without_memory.ensures.outcome) (refl, refl, refl)
