use Rattle.itch_lines.specs.laws.Normalised.{normalised_nothing}
use Rattle.itch_lines.proofs.itch_line.ItchLineLineSourceAnything.recycle.Goals as goal

pub returns-clause-brings : goal.returns-clause-brings
returns-clause-brings g c = rw (← c.self.view_is)
    (normalised_nothing g.S.LineSource.brings g.met.S.LineSource.brings_nothing _)
