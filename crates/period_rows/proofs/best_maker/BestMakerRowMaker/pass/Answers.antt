use Rattle.event_sinks.specs.SinkEvents.{told_by}
use Rattle.period_rows.proofs.BestMaking.{passes_bests}
use Rattle.period_rows.proofs.best_maker.BestMakerRowMaker.pass.Goals as goal

pub returns : goal.returns
returns c =
    passes_bests c.args.self.now c.take_before.new.self c.args._time (told_by c.args.event.now)
    c.take_before.ensures.over c.take_before.ensures.passed
