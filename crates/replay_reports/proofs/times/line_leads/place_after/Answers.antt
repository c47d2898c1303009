use Rattle.std.proofs.Common.{arith}
use Rattle.replay_reports.proofs.Noting.{next_within}
use Rattle.replay_reports.proofs.times.line_leads.place_after.Goals as goal

pub returns-then-place-size : goal.returns-then-place-size
returns-then-place-size c = λ number at.
    next_within number c.args.size c.args.place at (omega (arith, c.if-place-size.true))
