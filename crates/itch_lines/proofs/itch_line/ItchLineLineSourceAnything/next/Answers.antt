use Rattle.std.proofs.Common.{[]}
use Rattle.venue_lines.specs.Sources.{brought_in}
use Rattle.itch_lines.specs.laws.Normalised.{normalised_more}
use Rattle.itch_lines.proofs.itch_line.ItchLineLineSourceAnything.next.Goals as goal

pub returns-clause-brings : goal.returns-clause-brings
returns-clause-brings g c =
    normalised_more g.S.LineSource.brings g.met.S.LineSource.brings_more c.args.self.now
    c.wait_for_answer.new.self c.answer.new.self [] (brought_in c.answer.result)
    c.wait_for_answer.ensures.brings c.answer.ensures.brings
