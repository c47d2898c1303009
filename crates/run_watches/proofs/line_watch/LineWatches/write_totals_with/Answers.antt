use Rattle.std.proofs.Common.{◌∙◌, [], ◌∷◌, ◌++◌, add-one, ap, map, subst, sym, take}
use Rattle.std.proofs.Math.Seq.{take-suc}
use Rattle.std.specs.Prelude.{is_some}
use Rattle.std.proofs.lemmas.List.{map-append, take_all}
use Rattle.text_out.specs.Devices.{Writing}
use Rattle.run_watches.specs.News.{SaysTotals}
use Rattle.run_watches.specs.RunLines.{watched}
use Rattle.run_watches.proofs.Telling.{more_totals}
use Rattle.run_watches.proofs.line_watch.LineWatches.write_totals_with.Goals as goal

pub loop-line-preserved : goal.loop-line-preserved
loop-line-preserved g c =
    let w : Writing g.row.E.Denot = record {
      adds = g.E.TextOut.adds;
      failures =
          g.E.TextOut.failures;
    } in
    let items = c.as_slice-line-items.result.now in
    let place = c.loop-line.line-index in
    let line = c.line-item.result in
    let first = c.args.errors.now in
    let last = c.write_totals.new.errors in
    let before = map watched (take place items) in
    let more =
    ap (λ l. map watched l)
    (ap (λ k. take k items) (add-one place) ∙ take-suc items place line c.loop-line-test.true
    ∙ ap (λ x. take place items ++ x ∷ []) (sym c.line-item.is))
    ∙ map-append watched (take place items) (line ∷ []) in
    subst (λ lines. SaysTotals w c.args.names.now (is_some c.args.drops) lines first last)
    (sym more)
    (more_totals w c.args.names.now (is_some c.args.drops) before (watched line ∷ []) first
    c.loop-line.errors last
    c.loop-line.invariant c.write_totals.ensures)

pub returns : goal.returns
returns g c =
    let w : Writing g.row.E.Denot = record {
      adds = g.E.TextOut.adds;
      failures =
          g.E.TextOut.failures;
    } in
    let items = c.as_slice-line-items.result.now in
    subst (λ lines. SaysTotals w c.args.names.now (is_some c.args.drops) (map watched lines)
    c.args.errors.now
    c.loop-line.errors)
    (take_all c.loop-line.line-index items c.loop-line-test.false
    ∙ c.as_slice-line-items.ensures.value)
    c.loop-line.invariant
