use Rattle.std.proofs.Common.{List, ℕ, ◌++◌, arith, length, ap, subst}
use Rattle.std.proofs.lemmas.Result.{err_from_is_err_and}
use Rattle.event_sinks.specs.TextPageLaws.{takes_no_page}
use Rattle.event_sinks.specs.TextPages.{FailsPage, TakesPage}
use Rattle.report_rows.specs.FirstTextLaws.{fails_in_text, takes_next_text}
use Rattle.period_rows.specs.BestTimes.{no_symbol, settled_at, settled_text}
use Rattle.period_rows.proofs.best_times.write_symbols.Goals as goal

pub loop-place-init : goal.loop-place-init
loop-place-init g c =
    takes_no_page g.W.TextOut.adds g.W.TextOut.failures g.met.W.TextOut.adds_none c.args.page.now

pub loop-place-preserved : goal.loop-place-preserved
loop-place-preserved g c =
    takes_next_text g.W.TextOut.adds g.W.TextOut.failures g.met.W.TextOut.adds_more
    (settled_at c.args.over.now c.args.times.now) c.loop-place.place c.args.page.now
    c.loop-place.page c.write_symbol.new.page c.loop-place.invariant
    (subst (λ (l : List ℕ). TakesPage g.W.TextOut.adds g.W.TextOut.failures c.loop-place.page l
    c.write_symbol.new.page) (ap (settled_text c.args.over.now) (c.times_at-one.ensures no_symbol))
    c.in_ok-write_symbol.ensures.took)

pub returns-in_err-write_symbol-clause-failed : goal.returns-in_err-write_symbol-clause-failed
returns-in_err-write_symbol-clause-failed g c =
    let p = err_from_is_err_and c.from_residual.result c.from_residual.ensures.1 in
    rw p.1 (fails_in_text g.W.TextOut.adds g.W.TextOut.failures g.met.W.TextOut.adds_more
    (settled_at c.args.over.now c.args.times.now) c.loop-place.place
    (length c.args.times.now) c.args.page.now c.loop-place.page c.write_symbol.new.page
    (omega (arith, c.loop-place-test.true)) c.loop-place.invariant
    (subst (λ (l : List ℕ). FailsPage g.W.TextOut.adds g.W.TextOut.failures c.loop-place.page
    (c.loop-place.page.text.items ++ l) c.write_symbol.new.page)
    (ap (settled_text c.args.over.now) (c.times_at-one.ensures no_symbol))
    c.in_err-write_symbol.ensures.failed))
