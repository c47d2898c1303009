use Rattle.text_out.specs.TextParts.{labelled_in}
use Rattle.text_out.proofs.Growing.{no_room, on_err_any}
use Rattle.text_out.proofs.text_parts.put_each_labelled.Goals as goal

pub returns-in_err-put_labelled_one-clause-full : goal.returns-in_err-put_labelled_one-clause-full
returns-in_err-put_labelled_one-clause-full c =
    on_err_any c.from_residual.result (no_room (labelled_in c.args.style) c.args.numbers.now
    c.loop-labelled.labelled-index _ c.args.text.now.items c.loop-labelled.text.items _ _ _ _
    c.loop-labelled-test.true c.args.text.now.ok.0 c.loop-labelled.text.ok.0
    c.loop-labelled.invariant.0 c.loop-labelled.invariant.1 c.in_err-put_labelled_one.ensures.full)
