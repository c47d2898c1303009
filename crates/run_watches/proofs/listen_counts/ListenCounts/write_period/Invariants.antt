use Rattle.text_out.specs.Members.{writing_of}
use Rattle.run_watches.specs.RunNews.{SaysCounts}
use Rattle.run_watches.proofs.listen_counts.ListenCounts.write_period.Given as goal

abbrev pub invariant-loop-place : goal.invariant-loop-place
invariant-loop-place g l =
    SaysCounts (writing_of g.E.TextOut) l.fn.errors l.errors
