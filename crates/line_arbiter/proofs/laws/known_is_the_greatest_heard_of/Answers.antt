use Rattle.line_arbiter.proofs.GapLaws.{known_is}
use Rattle.line_arbiter.proofs.laws.known_is_the_greatest_heard_of.Goals as goal

pub returns : goal.returns
returns c = known_is
