use Rattle.line_discovery.specs.KeyedRowLaws.{table_more}
use Rattle.nbbo_runs.specs.Sessions.{by_session, with_sighting}
use Rattle.nbbo_runs.proofs.SessionCounts.{keyed_by_session}
use Rattle.nbbo_runs.proofs.session_table.SessionTable.count.Goals as goal

pub invariant_of-self : goal.invariant_of-self
invariant_of-self c =
    let here = c.self.inside in
    rw (c.count_in.ensures, c.with-self-inside.ensures)
    (table_more by_session with_sighting keyed_by_session here.rows.items here.past.items
    c.args.sighting.now c.self.invariant)
