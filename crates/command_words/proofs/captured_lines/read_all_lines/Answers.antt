use Rattle.std.proofs.Common.{Err, ◌+◌, arith, inr, refl, subst}
use Rattle.command_words.specs.CapturedLines.{ReadsCapturedLines}
use Rattle.command_words.specs.declared.refusal.Refusal.{Refusal}
use Rattle.command_words.proofs.CapturedLists.{none_more}
use Rattle.command_words.proofs.captured_lines.read_all_lines.Goals as goal

pub loop-fewer-preserved : goal.loop-fewer-preserved
loop-fewer-preserved c =
    let list = c.args.list.now in
    let venues = c.loop-fewer.fewer in
    none_more list venues c.loop-fewer.invariant
    (subst (λ (refusal : Refusal). ReadsCapturedLines list (venues + 1) (Err refusal))
    c.in-Err-BadLines.field-0-is c.in-Err-BadLines.ensures.reads)

pub returns-in-Ok-clause-venues : goal.returns-in-Ok-clause-venues
returns-in-Ok-clause-venues c = λ place line at.
    let less = c.in-Ok.ensures.venues place line at in omega (arith, less)

pub returns-clause-reads : goal.returns-clause-reads
returns-clause-reads c =
    inr (refl, λ venues some few. c.loop-fewer.invariant venues some (omega arith))
