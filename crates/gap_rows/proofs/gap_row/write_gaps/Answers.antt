use Rattle.std.proofs.Common.{◌++◌, arith, length, refl, ap, ◌∙◌}
use Rattle.std.proofs.lemmas.Result.{err_from_is_err_and}
use Rattle.event_sinks.specs.TextPageLaws.{takes_no_page}
use Rattle.line_gaps.specs.declared.open_gap.EndedGap.{EndedGap}
use Rattle.report_rows.specs.FirstTextLaws.{fails_after_texts, takes_next_row}
use Rattle.gap_rows.specs.GapCells.{gap_row, gap_row_at}
use Rattle.gap_rows.proofs.gap_row.write_gaps.Goals as goal

pub loop-place-init : goal.loop-place-init
loop-place-init g c =
    takes_no_page g.W.TextOut.adds g.W.TextOut.failures g.met.W.TextOut.adds_none c.args.page.now

pub loop-place-preserved : goal.loop-place-preserved
loop-place-preserved g c =
    let n = c.loop-place.place in
    let put = c.put_gap.ensures.row
    ∙ ap (λ (e : EndedGap). c.write_full.new.self.text.items
    ++ gap_row c.args.format.now c.args.venue e) c.gap_at-gap.ensures in
    takes_next_row g.W.TextOut.adds g.W.TextOut.failures g.met.W.TextOut.adds_more
    (gap_row_at c.args.format.now c.args.venue c.args.gaps.now) n c.args.page.now c.loop-place.page
    c.write_full.new.self _ c.loop-place.invariant c.in_ok-write_full.ensures.written
    c.in_ok-write_full.ensures.kept refl put

pub returns-in_err-write_full-clause-failed : goal.returns-in_err-write_full-clause-failed
returns-in_err-write_full-clause-failed g c =
    let p = err_from_is_err_and c.from_residual.result c.from_residual.ensures.1 in
    rw p.1 (fails_after_texts g.W.TextOut.adds g.W.TextOut.failures g.met.W.TextOut.adds_more
    (gap_row_at c.args.format.now c.args.venue c.args.gaps.now) c.loop-place.place
    (length c.args.gaps.now) c.args.page.now c.loop-place.page c.write_full.new.self
    (omega (arith, c.loop-place-test.true)) c.loop-place.invariant
    c.in_err-write_full.ensures.part)
