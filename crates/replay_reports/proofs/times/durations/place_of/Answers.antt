use Rattle.std.proofs.Common.{ℕ, ◌+◌, ◌*◌, ◌/◌, ◌%◌, ◌^◌, ap}
use Rattle.replay_reports.proofs.Places.{placed}
use Rattle.replay_reports.proofs.times.durations.place_of.Goals as goal

pub returns-clause-at : goal.returns-clause-at
returns-clause-at c =
    let d = c.args.duration in
    let shift = c.saturating_sub-shift.result in
    placed d shift _ c.min-power.result c.if-duration-lt-PARTS.false
    c.ranges.duration.fits c.min-power.ensures
    c.saturating_sub-shift.ensures (ap (λ (n : ℕ). n * 16 + d / 2 ^ shift % 16) c.from.ensures)
