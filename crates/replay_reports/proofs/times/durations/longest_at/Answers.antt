use Rattle.replay_reports.proofs.Places.{last_made}
use Rattle.replay_reports.proofs.times.durations.longest_at.Goals as goal

pub returns : goal.returns
returns c = λ small.
    last_made c.args.place c.min-shift.result c.saturating_mul.result c.saturating_add.result
    c.if-place-lt-PARTS.false small
    c.min-shift.ensures c.saturating_mul.ensures c.saturating_add.ensures
