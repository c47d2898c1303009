use Rattle.std.proofs.Common.{arith, length}
use Rattle.std.proofs.lemmas.Result.{err_from_is_err_and}
use Rattle.event_sinks.specs.TextPageLaws.{takes_no_page}
use Rattle.report_rows.specs.FirstTextLaws.{fails_in_text, takes_next_text}
use Rattle.period_rows.specs.CountRows.{text_at}
use Rattle.period_rows.proofs.count_rows.write_periods.Goals as goal

pub loop-place-init : goal.loop-place-init
loop-place-init g c =
    takes_no_page g.W.TextOut.adds g.W.TextOut.failures g.met.W.TextOut.adds_none c.args.page.now

pub loop-place-preserved : goal.loop-place-preserved
loop-place-preserved g c =
    takes_next_text g.W.TextOut.adds g.W.TextOut.failures g.met.W.TextOut.adds_more
    (text_at c.args.format c.args.lines c.args.periods.now) c.loop-place.place c.args.page.now
    c.loop-place.page c.write_period_at.new.page c.loop-place.invariant
    c.in_ok-write_period_at.ensures.took

pub returns-in_err-write_period_at-clause-failed : goal.returns-in_err-write_period_at-clause-failed
returns-in_err-write_period_at-clause-failed g c =
    let p = err_from_is_err_and c.from_residual.result c.from_residual.ensures.1 in
    rw p.1 (fails_in_text g.W.TextOut.adds g.W.TextOut.failures g.met.W.TextOut.adds_more
    (text_at c.args.format c.args.lines c.args.periods.now) c.loop-place.place
    (length c.args.periods.now) c.args.page.now c.loop-place.page c.write_period_at.new.page
    (omega (arith, c.loop-place-test.true)) c.loop-place.invariant
    c.in_err-write_period_at.ensures.failed)
