use Rattle.line_arbiter.specs.laws.OneOutcome.{one_renewal}
use Rattle.line_arbiter.proofs.laws.one_renewal.Goals as goal

pub returns : goal.returns
returns c = one_renewal
