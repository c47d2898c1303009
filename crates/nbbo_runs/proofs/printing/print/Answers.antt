use Rattle.std.proofs.Common.{ap, refl, ◌∙◌}
use Rattle.text_out.specs.Devices.{Writing}
use Rattle.text_out.specs.Members.{writing_of}
use Rattle.event_sinks.specs.declared.text_page.TextPage.{TextPage}
use Rattle.feed_text.specs.EventReplays.{venues_in}
use Rattle.best_rows.specs.declared.style.RowStyle.{RowStyle}
use Rattle.replay_reports.specs.BestRowMakers.{text_of_rows}
use Rattle.report_rows.specs.RowTexts.{header_text}
use Rattle.period_rows.specs.BestMakers.{AreBests}
use Rattle.period_rows.specs.BestRows.{BestSetting, best_names, best_rows_with, text_of_bests}
use Rattle.nbbo_runs.specs.Printing.{rows_of_gaps, rows_of_text}
use Rattle.nbbo_runs.proofs.GapPrints.{gaps_write}
use Rattle.nbbo_runs.proofs.SinkPrints.{bests_write, history_writes, lines_print, made_writes}
use Rattle.nbbo_runs.proofs.printing.print.Goals as goal

pub returns-in-Ok : goal.returns-in-Ok
returns-in-Ok g c =
    let config = c.config_of-config.result.replay in
    let sink = c.new-sink in
    let replayed = c.replay_watched-replayed in
    rw c.into_writer.ensures (record {
      config = config;
      is = c.config_of-config.ensures.replay;
      prints = rw c.in-Lines.is (lines_print (writing_of g.W.TextOut) _ _ config _ _ _ _
          replayed.result.outcome (λ s. s.page) c.args.output sink.result replayed.result.sink
          (ap (λ (p : TextPage g.row.W.Denot). p.writer) sink.ensures ∙ c.in-Ok.ensures.writer)
          (ap (λ (p : TextPage g.row.W.Denot). p.text.items) sink.ensures ∙ c.in-Ok.ensures.empty)
          replayed.ensures.headline);
      gaps = replayed.ensures.gaps;
      absent_are = rw (← c.config_of-config.ensures.replay.symbols) replayed.ensures.absent;
      late_is = rw c.in-Lines.is refl;
    })

pub returns-in-Err : goal.returns-in-Err
returns-in-Err g c = rw (c.without_periods.ensures, c.without_memory.ensures.outcome) (record {
  config = c.config_of-config.result.replay;
  is = c.config_of-config.ensures.replay;
  prints = rw c.in-Lines.is
      (refl, refl, c.without_memory.ensures.output ∙ c.in-Err.ensures.refused);
  gaps = tt;
  absent_are = tt;
  late_is = rw c.in-Lines.is refl;
})

pub returns-in-Bests : goal.returns-in-Bests
returns-in-Bests g c =
    let writing : Writing g.row.W.Denot = writing_of g.W.TextOut in
    let style : RowStyle = record {
      format = c.in-Bests.rows;
      timed = c.is_packet_input-timed.result;
    } in
    let output = c.args.output in
    let printed = c.print_rows.ensures (rows_of_text (text_of_rows style)) output
    (made_writes c.rows_before-made.result (bests_write writing style output)
    c.rows_before-made.ensures.rows) c.rows_before-made.ensures.refused in
    rw c.without_periods-in-Bests.ensures (record {
      config = c.config_of-config.result.replay;
      is = c.config_of-config.ensures.replay;
      prints = rw (
        ← c.is_packet_input-timed.ensures,
        ← c.config_of-config.ensures.span,
        c.in-Bests.is,
      ) printed.prints;
      gaps = printed.missing.gaps;
      absent_are = rw (← c.config_of-config.ensures.replay.symbols) printed.missing.absent;
      late_is = rw c.in-Bests.is refl;
    })

pub returns-in-Gaps : goal.returns-in-Gaps
returns-in-Gaps g c =
    let writing : Writing g.row.W.Denot = writing_of g.W.TextOut in
    let format = c.in-Gaps.rows in
    let output = c.args.output in
    let made = c.gaps_before-made.result in
    let venues = venues_in c.config_of-config.result.replay in
    let printed = c.print_rows-in-Gaps.ensures (rows_of_gaps format venues) output
    (made_writes made (gaps_write writing format venues output) c.gaps_before-made.ensures.rows)
    c.gaps_before-made.ensures.refused in
    rw c.without_periods-in-Gaps.ensures (record {
      config = c.config_of-config.result.replay;
      is = c.config_of-config.ensures.replay;
      prints = rw (← c.config_of-config.ensures.span, c.in-Gaps.is) printed.prints;
      gaps = printed.missing.gaps;
      absent_are = rw (← c.config_of-config.ensures.replay.symbols) printed.missing.absent;
      late_is = rw c.in-Gaps.is refl;
    })

pub returns-in-Periods : goal.returns-in-Periods
returns-in-Periods g c = record {
  config = c.config_of-config.result.replay;
  is = c.config_of-config.ensures.replay;
  prints = rw (← c.config_of-config.ensures.span, c.in-Periods.is)
      c.print_periods.ensures.printed.prints;
  gaps = c.print_periods.ensures.printed.missing.gaps;
  absent_are = rw (← c.config_of-config.ensures.replay.symbols)
      c.print_periods.ensures.printed.missing.absent;
  late_is = rw (← c.config_of-config.ensures.span, c.in-Periods.is)
      c.print_periods.ensures.late;
}

pub returns-in-BestTimes : goal.returns-in-BestTimes
returns-in-BestTimes g c =
    let writing : Writing g.row.W.Denot = writing_of g.W.TextOut in
    let config = c.config_of-config.result.replay in
    let style = c.in-BestTimes.style in
    let setting : BestSetting = record {
      style = style;
      venues = venues_in config;
      symbols = config.symbols.now;
      from = c.config_of-config.result.span.from;
    } in
    let output = c.args.output in
    let header = header_text style.format (best_names style.format) in
    let printed = c.print_rows-in-BestTimes.ensures (rows_of_text (text_of_bests setting)) output
    (made_writes c.best_times_before-made.result
    (history_writes writing AreBests best_rows_with header setting output)
    c.best_times_before-made.ensures.rows)
    c.best_times_before-made.ensures.refused in
    rw c.without_periods-in-BestTimes.ensures (record {
      config = config;
      is = c.config_of-config.ensures.replay;
      prints = rw (← c.config_of-config.ensures.span, c.in-BestTimes.is) printed.prints;
      gaps = printed.missing.gaps;
      absent_are = rw (← c.config_of-config.ensures.replay.symbols) printed.missing.absent;
      late_is = rw c.in-BestTimes.is refl;
    })

pub returns-in-Stats : goal.returns-in-Stats
returns-in-Stats g c = rw c.without_periods-in-Stats.ensures (record {
  config = c.config_of-config.result.replay;
  is = c.config_of-config.ensures.replay;
  prints = rw (
    ← c.is_packet_input-timed.ensures,
    ← c.config_of-config.ensures.span,
    c.in-Stats.is,
  ) c.print_stats.ensures.prints;
  gaps = c.print_stats.ensures.missing.gaps;
  absent_are = rw (← c.config_of-config.ensures.replay.symbols)
      c.print_stats.ensures.missing.absent;
  late_is = rw c.in-Stats.is refl;
})
