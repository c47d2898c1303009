use Rattle.std.proofs.Common.{refl}
use Rattle.feed_types.specs.declared.line.LineId.TheVariants as on
use Rattle.line_gaps.specs.declared.gap_line.GapLine.TheVariants as lines
use Rattle.period_rows.proofs.SequenceTies.{misses_gaps}
use Rattle.period_rows.proofs.laws.missing_is_of_gaps.Goals as goal

pub returns-clause-a : goal.returns-clause-a
returns-clause-a c = misses_gaps on.A lines.A (λ p. refl)

pub returns-clause-b : goal.returns-clause-b
returns-clause-b c = misses_gaps on.B lines.B (λ p. refl)
