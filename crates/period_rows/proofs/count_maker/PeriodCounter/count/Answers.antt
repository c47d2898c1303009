use Rattle.event_sinks.specs.SinkEvents.{told_by}
use Rattle.period_rows.proofs.CountSteps.{counts_begin}
use Rattle.period_rows.proofs.count_maker.PeriodCounter.count.Goals as goal

pub returns-clause-counts : goal.returns-clause-counts
returns-clause-counts g c =
    counts_begin c.args.begin c.enter-entered.result.place c.args.self.now.sequences
    c.args.self.now.periods.kept.items c.enter-entered.new.self.kept.items
    c.as_mut_slice-periods.result.now c.count_in_period.new.periods (told_by c.args.event.now)
    c.enter-entered.ensures.kept c.enter-entered.ensures.place
    c.as_mut_slice-periods.ensures.value c.count_in_period.ensures
