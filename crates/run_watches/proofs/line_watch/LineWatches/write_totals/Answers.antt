use Rattle.std.proofs.Common.{◌∙◌, map, subst}
use Rattle.text_out.specs.Devices.{Writing}
use Rattle.run_watches.specs.News.{SaysTotals}
use Rattle.run_watches.specs.RunLines.{watched}
use Rattle.run_watches.proofs.line_watch.LineWatches.write_totals.Goals as goal

pub returns : goal.returns
returns g c =
    let w : Writing g.row.E.Denot = record {
      adds = g.E.TextOut.adds;
      failures =
          g.E.TextOut.failures;
    } in
    subst (λ more. SaysTotals w c.args.names.now more (map watched c.args.self.now.lines.items)
    c.args.errors.now
    c.write_totals_with.new.errors) (c.as_ref.ensures.variant ∙ c.requires)
    c.write_totals_with.ensures
