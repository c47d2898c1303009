use Rattle.std.proofs.Common.{[], sym, subst}
use Rattle.feed_text.specs.EventReplays.{venues_in}
use Rattle.report_rows.specs.RowSinks.{IsNewRowSink}
use Rattle.report_rows.specs.RowTexts.{header_text}
use Rattle.run_settings.specs.declared.period_style.PeriodStyle.{PeriodStyle}
use Rattle.period_rows.specs.BestMakers.{AreBests}
use Rattle.period_rows.specs.BestRows.{best_names}
use Rattle.period_rows.specs.declared.best_maker.BestMaker.{BestMaker}
use Rattle.nbbo_runs.proofs.printing.best_times_before.Goals as goal

pub returns-in-Ok-page_before-clause-rows : goal.returns-in-Ok-page_before-clause-rows
returns-in-Ok-page_before-clause-rows g c =
    let style = c.args.style in
    let made = c.in-Ok.maker in
    let sink = c.new_best_rows.result in
    let new = c.new_best_rows.ensures in
    let are : AreBests (record {
      style = style;
      venues = venues_in c.args.config.now.replay;
      symbols = c.args.config.now.replay.symbols.now;
      from = c.args.config.now.span.from;
    }) [] made = c.in-Ok.ensures in
    record {
      is = subst (λ (m : BestMaker). IsNewRowSink c.args.output m
          (header_text style.format (best_names style.format)) sink) (sym new.maker_is)
          (subst (λ (s : PeriodStyle). IsNewRowSink c.args.output made
          (header_text s.format (best_names s.format)) sink) are.style
          (subst (λ (writer : g.row.W.Denot). IsNewRowSink writer made
          (header_text made.style.format (best_names made.style.format)) sink)
          c.in-Ok-page_before.ensures.writer new));
      are = subst (λ (m : BestMaker). AreBests (record {
        style = style;
        venues = venues_in c.args.config.now.replay;
        symbols = c.args.config.now.replay.symbols.now;
        from = c.args.config.now.span.from;
      }) [] m) (sym new.maker_is) are;
    }
