use Rattle.std.proofs.Common.{ap, length, ◌∙◌}
use Rattle.replay_reports.proofs.Busiest.{busier, refill_whole}
use Rattle.replay_reports.proofs.times.busiest_period.BusiestPeriod.add_at.Goals as goal

pub returns : goal.returns
returns c = λ came holds.
    let value = c.as_mut_slice.ensures.value in
    busier c.args.length c.args.time c.args.messages c.begin_of.result
    c.enter-place.result.place came
    c.args.self.now _ c.as_mut_slice.result.now c.raise-period.result holds c.begin_of.ensures
    (value ∙ c.enter-place.ensures.kept) c.enter-place.ensures.place
    c.raise-period.ensures.more
    (refill_whole c.enter-place.new.self.kept.items c.raise-period.new.periods
    (c.raise-period.auto.periods ∙ ap length value) ∙ c.raise-period.ensures.put)
    c.began_with-self.ensures
    c.max-self.ensures c.enter-place.ensures.late
