use Rattle.std.proofs.Common.{◌≡◌, ◌++◌, map, take, drop}
use Rattle.line_discovery.specs.KeyedRows.{grown_by}
use Rattle.nbbo_runs.specs.Sessions.{by_session, with_sighting}
use Rattle.nbbo_runs.proofs.session_table.count_row.Given as goal

abbrev pub invariant-loop-place : goal.invariant-loop-place
invariant-loop-place l =
    l.rows ≡ map (grown_by by_session with_sighting l.sighting) (take l.place l.fn.rows)
    ++ drop l.place l.fn.rows
