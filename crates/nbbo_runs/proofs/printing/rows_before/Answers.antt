use Rattle.std.proofs.Common.{ap, refl, subst}
use Rattle.best_rows.specs.RowTexts.{header_of}
use Rattle.best_rows.specs.declared.style.RowStyle.{RowStyle}
use Rattle.report_rows.specs.RowSinks.{IsNewRowSink}
use Rattle.replay_reports.specs.declared.best_row_maker.BestRowMaker.{BestRowMaker}
use Rattle.nbbo_runs.proofs.printing.rows_before.Goals as goal

pub returns-in-Ok-clause-rows : goal.returns-in-Ok-clause-rows
returns-in-Ok-clause-rows g c =
    let style : RowStyle = record { format = c.args.format; timed = c.args.timed } in
    let sink = c.new_best_row_sink.result in
    let new = subst (λ writer. IsNewRowSink writer (record { style = style })
    (header_of style.format style.timed) sink) c.in-Ok.ensures.writer c.new_best_row_sink.ensures in
    record {
      is = record { writer_is = new.writer_is; maker_is = refl; waits = new.waits };
      are = ap (λ (m : BestRowMaker). m.style) new.maker_is;
    }
