use Rattle.text_out.specs.Members.{writing_of}
use Rattle.std.proofs.Common.{map, take}
use Rattle.std.specs.Prelude.{is_some}
use Rattle.run_watches.specs.News.{SaysTotals}
use Rattle.run_watches.specs.RunLines.{watched}
use Rattle.run_watches.proofs.line_watch.LineWatches.write_totals_with.Given as goal

abbrev pub invariant-loop-line : goal.invariant-loop-line
invariant-loop-line g l =
    SaysTotals (writing_of g.E.TextOut) l.names
    (is_some l.drops) (map watched (take l.line-index l.line-items)) l.fn.errors l.errors
