use Rattle.period_rows.proofs.PeriodSteps.{figures_are_sums}
use Rattle.period_rows.proofs.laws.figures_are_sums.Goals as goal

pub returns : goal.returns
returns c = figures_are_sums
