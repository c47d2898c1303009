use Rattle.replay_reports.proofs.Counting.{led_nowhere, led_somewhere}
use Rattle.replay_reports.proofs.counts.best_counts.count_best.Goals as goal

pub returns-in-Some : goal.returns-in-Some
returns-in-Some c = λ f is.
    led_somewhere f c.args.counts.now c.args.best c.in-Some.best c.index-place.result
    c.saturating_add.result c.in-Some.is c.index-place.ensures.value c.index-place.ensures.in_range
    c.saturating_add.ensures is

pub returns-in-None : goal.returns-in-None
returns-in-None c = λ f is. led_nowhere f c.args.counts.now c.args.best c.in-None.is is
