use Rattle.std.proofs.Common.{refl}
use Rattle.message_types.proofs.TypeSteps.{came_step}
use Rattle.message_types.proofs.survey.TypeSurveyRecordFormat.next.Goals as goal

pub returns-in-Came-clause-steps : goal.returns-in-Came-clause-steps
returns-in-Came-clause-steps g c =
    came_step g.F.RecordFormat.reads g.F.RecordFormat.wants g.F.RecordFormat.is_bad
    c.args.self.now _ c.args.bytes.now c.next-step.result c.in-Came.len c.in-Came.time
    c.in-Came.record c.in-Came.is c.next-step.ensures.steps c.count_step.ensures refl
