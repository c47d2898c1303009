use Rattle.line_arbiter.specs.laws.Below.{answered_more}
use Rattle.line_arbiter.proofs.laws.answers_go_on.Goals as goal

pub returns : goal.returns
returns c = answered_more
