use Rattle.text_out.specs.Members.{writing_of}
use Rattle.normalising.proofs.Venues.{first_none}
use Rattle.normalising.proofs.normalised_venues.NormalisedVenues.make_room.Goals as goal

pub returns-in_default-clause-puts_in : goal.returns-in_default-clause-puts_in
returns-in_default-clause-puts_in g c = λ r is. first_none
    (writing_of g.W.TextOut) g.met.W.TextOut.adds_none r c.args.self.now c.args.writer.now (tt {0})
