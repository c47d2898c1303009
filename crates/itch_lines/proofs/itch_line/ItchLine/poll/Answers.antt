use Rattle.itch_lines.specs.laws.Normalised.{normalised_nothing}
use Rattle.itch_lines.proofs.Passing.{source_first}
use Rattle.itch_lines.proofs.itch_line.ItchLine.poll.Goals.{then-await_next, else-await_next}
use Rattle.itch_lines.proofs.itch_line.ItchLine.poll.Goals as goal

pub returns-then-not-is_empty-clause-brings : goal.returns-then-not-is_empty-clause-brings
returns-then-not-is_empty-clause-brings g c =
    normalised_nothing g.S.LineSource.brings g.met.S.LineSource.brings_nothing c.args.self.now

pub returns-clause-brings : goal.returns-clause-brings
returns-clause-brings g c = rw (← c.self.view_is)
    (source_first g.S.LineSource.brings g.met.S.LineSource.brings_more _ c.if-await_next.self
    c.await_next.new.self c.await_next.ensures.brings
    (elim c.if-await_next.branch [
      | then-await_next w ↦ rw w.self-is w.read.ensures.brings
      | else-await_next w ↦ rw w.self-is w.look_at_gap-else-await_next.ensures.brings
    ]))
