use Rattle.std.proofs.Common.{◌≡◌, ◌+◌, ◌<◌, ◌++◌, length, map, take, drop, set, get_or, sym, subst, arith}
use Rattle.std.proofs.lemmas.List.{get_or_default}
use Rattle.std.proofs.lemmas.List.Edits.{map_over_more}
use Rattle.line_discovery.specs.KeyedRows.{grown_by}
use Rattle.nbbo_runs.specs.declared.session_row.SessionRow.{SessionRow}
use Rattle.nbbo_runs.specs.Sessions.{by_session, with_sighting}
use Rattle.nbbo_runs.proofs.session_table.count_row.Goals as goal

pub loop-place-preserved : goal.loop-place-preserved
loop-place-preserved c =
    let grown = grown_by by_session with_sighting c.args.sighting.now in
    let i = c.loop-place.place in
    let xs = c.args.rows.now in
    let ys = c.loop-place.rows in
    let none = c.index-rows-place.result in
    let row = get_or ys i none in
    let less : i < length ys = omega (arith, c.loop-place-test.true, c.loop-place.auto.rows) in
    subst (λ (r : SessionRow). set ys i r ≡ map grown (take (i + 1) xs) ++ drop (i + 1) xs)
    (sym c.count.ensures)
    (map_over_more grown xs ys i row c.loop-place-test.true c.loop-place.invariant
    (get_or_default ys i none row less))
