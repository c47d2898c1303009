use Rattle.line_arbiter.proofs.Standing.{stands_of}
use Rattle.line_arbiter.proofs.Passing.{passing_fits}
use Rattle.line_arbiter.proofs.arbiter.Arbiter.take_next.Goals as goal

pub returns-clause-fits : goal.returns-clause-fits
returns-clause-fits g c packets fits = rw c.pass.ensures.outcome (passing_fits c.args.line _ _
    packets c.number-number.ensures.content c.requires (stands_of fits) _ c.pass.ensures.past)
