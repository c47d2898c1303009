use Rattle.std.proofs.Common.{[], inr, refl, sym}
use Rattle.message_forms.specs.PayloadLaws.{look_none}
use Rattle.message_forms.proofs.payload.look_after.Goals as goal

pub returns-in-Err : goal.returns-in-Err
returns-in-Err c =
    ([], inr (c.in-Err.field-0, c.in-Err.ensures.fault, refl), sym (look_none c.args.before))
