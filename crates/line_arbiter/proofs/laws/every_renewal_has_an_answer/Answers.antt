use Rattle.line_arbiter.specs.laws.EveryAnswer.{every_renewal}
use Rattle.line_arbiter.proofs.laws.every_renewal_has_an_answer.Goals as goal

pub returns : goal.returns
returns c = every_renewal
