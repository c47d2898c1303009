use Rattle.std.proofs.Common.{◌++◌, arith, refl, ap, ◌∙◌}
use Rattle.std.proofs.lemmas.Result.{err_from_is_err_and}
use Rattle.event_sinks.specs.TextPageLaws.{takes_no_page}
use Rattle.report_rows.specs.FirstTextLaws.{fails_after_texts, takes_next_row}
use Rattle.period_rows.specs.BestRows.{best_row}
use Rattle.period_rows.specs.BestTimes.{figures_row}
use Rattle.period_rows.specs.declared.best_shares.BestShares.{BestShares}
use Rattle.period_rows.proofs.best_times.write_venues.Goals as goal

pub loop-venue-init : goal.loop-venue-init
loop-venue-init g c =
    takes_no_page g.W.TextOut.adds g.W.TextOut.failures g.met.W.TextOut.adds_none c.args.page.now

pub loop-venue-preserved : goal.loop-venue-preserved
loop-venue-preserved g c =
    let n = c.loop-venue.venue in
    let over = c.args.over.now in
    let put = c.put_best.ensures.row
    ∙ ap (λ (s : BestShares). c.write_full.new.self.text.items
    ++ best_row over.style.format over.begin c.args.symbol n s) c.of-shares.ensures in
    takes_next_row g.W.TextOut.adds g.W.TextOut.failures g.met.W.TextOut.adds_more
    (figures_row over c.args.symbol c.args.figures.now) n c.args.page.now c.loop-venue.page
    c.write_full.new.self _ c.loop-venue.invariant c.in_ok-write_full.ensures.written
    c.in_ok-write_full.ensures.kept refl put

pub returns-in_err-write_full-clause-failed : goal.returns-in_err-write_full-clause-failed
returns-in_err-write_full-clause-failed g c =
    let p = err_from_is_err_and c.from_residual.result c.from_residual.ensures.1 in
    rw p.1 (fails_after_texts g.W.TextOut.adds g.W.TextOut.failures g.met.W.TextOut.adds_more
    (figures_row c.args.over.now c.args.symbol c.args.figures.now) c.loop-venue.venue
    c.args.over.now.venues c.args.page.now c.loop-venue.page c.write_full.new.self
    (omega (arith, c.loop-venue-test.true)) c.loop-venue.invariant
    c.in_err-write_full.ensures.part)
