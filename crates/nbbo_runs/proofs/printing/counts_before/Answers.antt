use Rattle.std.proofs.Common.{subst}
use Rattle.report_rows.specs.RowSinks.{IsNewRowSink}
use Rattle.report_rows.specs.RowTexts.{header_text}
use Rattle.period_rows.specs.CountRows.{count_names}
use Rattle.nbbo_runs.proofs.printing.counts_before.Goals as goal

pub returns-in-Ok-clause-rows : goal.returns-in-Ok-clause-rows
returns-in-Ok-clause-rows g c =
    let style = c.args.style in
    let sink = c.new_count_rows.result in
    record {
      is = subst (λ (writer : g.row.W.Denot). IsNewRowSink writer sink.maker
          (header_text style.format (count_names style.format)) sink) c.in-Ok.ensures.writer
          c.new_count_rows.ensures.sink;
      are = c.new_count_rows.ensures.counts;
    }
