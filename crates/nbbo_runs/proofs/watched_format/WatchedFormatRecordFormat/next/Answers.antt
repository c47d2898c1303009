use Rattle.std.proofs.Common.{refl}
use Rattle.nbbo_runs.proofs.WatchedSteps.{watched_step}
use Rattle.nbbo_runs.proofs.watched_format.WatchedFormatRecordFormat.next.Goals as goal

pub returns-clause-steps : goal.returns-clause-steps
returns-clause-steps g c =
    watched_step g.F.RecordFormat.reads g.F.RecordFormat.wants g.F.RecordFormat.is_bad
    c.args.self.now _ c.args.bytes.now c.next-step.result c.next-step.ensures.steps
    c.watch.ensures c.note_looks.ensures c.note_session.ensures refl refl refl
