use Rattle.event_sinks.specs.SinkEvents.{timed_event, told_by}
use Rattle.period_rows.proofs.BestMaking.{failed_bests, made_bests}
use Rattle.period_rows.proofs.best_maker.BestMakerRowMaker.make.Goals as goal

pub returns-clause-made : goal.returns-clause-made
returns-clause-made g c =
    made_bests g.W.TextOut.adds g.W.TextOut.failures c.step.result c.args.self.now c.step.new.self
    (timed_event c.args.time (told_by c.args.event.now)) c.args.page.now c.step.new.page
    c.step.ensures.took c.step.ensures.stepped

pub returns-clause-failed : goal.returns-clause-failed
returns-clause-failed g c =
    failed_bests g.W.TextOut.adds g.W.TextOut.failures c.step.result c.args.self.now
    (timed_event c.args.time (told_by c.args.event.now)) c.args.page.now c.step.new.page
    c.step.ensures.failed
