use Rattle.message_types.proofs.TypeSteps.{step_counted}
use Rattle.message_types.proofs.survey.count_step.Goals as goal

pub returns-in-Came : goal.returns-in-Came
returns-in-Came g c =
    step_counted c.args.span.now c.args.step.now c.in-Came.len c.in-Came.time c.in-Came.record
    c.has.result c.args.counts.now c.count_record.new.counts c.in-Came.is c.has.ensures
    c.count_record.ensures
