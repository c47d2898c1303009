use Rattle.line_discovery.proofs.Growth.{line_table_more}
use Rattle.line_discovery.proofs.table.EndpointTable.count.Goals as goal

pub invariant_of-self : goal.invariant_of-self
invariant_of-self c =
    let here = c.self.inside in
    let counted = c.count_in.ensures in (
      rw (counted.rows, c.saturating_add-self-inside.ensures, c.with-self-inside.ensures)
          (line_table_more here.rows.items here.count here.past.items c.args.sighting.now
          c.self.invariant.0),
      counted.keyed,
      counted.room,
      counted.spare,
    )
