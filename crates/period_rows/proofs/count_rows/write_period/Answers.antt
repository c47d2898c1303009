use Rattle.std.proofs.Common.{◌++◌, arith, refl, ap, ◌∙◌}
use Rattle.std.proofs.lemmas.Result.{err_from_is_err_and}
use Rattle.event_sinks.specs.TextPageLaws.{takes_no_page}
use Rattle.report_rows.specs.FirstTextLaws.{fails_after_texts, takes_next_row}
use Rattle.period_rows.specs.CountRows.{count_line_row, row_in}
use Rattle.period_rows.specs.declared.line_figures.LineFigures.{LineFigures}
use Rattle.period_rows.proofs.count_rows.write_period.Goals as goal

pub loop-place-init : goal.loop-place-init
loop-place-init g c =
    takes_no_page g.W.TextOut.adds g.W.TextOut.failures g.met.W.TextOut.adds_none c.args.page.now

pub loop-place-preserved : goal.loop-place-preserved
loop-place-preserved g c =
    let n = c.loop-place.place in
    let period = c.args.period.now in
    let put = c.put_line.ensures.row
    ∙ ap (λ (f : LineFigures). c.write_full.new.self.text.items
    ++ count_line_row c.args.format period.begin n f) c.figures_at-figures.ensures in
    takes_next_row g.W.TextOut.adds g.W.TextOut.failures g.met.W.TextOut.adds_more
    (row_in c.args.format period) n c.args.page.now c.loop-place.page c.write_full.new.self _
    c.loop-place.invariant c.in_ok-write_full.ensures.written c.in_ok-write_full.ensures.kept refl
    put

pub returns-in_err-write_full-clause-failed : goal.returns-in_err-write_full-clause-failed
returns-in_err-write_full-clause-failed g c =
    let p = err_from_is_err_and c.from_residual.result c.from_residual.ensures.1 in
    rw p.1 (fails_after_texts g.W.TextOut.adds g.W.TextOut.failures g.met.W.TextOut.adds_more
    (row_in c.args.format c.args.period.now) c.loop-place.place c.args.lines
    c.args.page.now c.loop-place.page c.write_full.new.self
    (omega (arith, c.loop-place-test.true)) c.loop-place.invariant
    c.in_err-write_full.ensures.part)
