use Rattle.text_out.specs.TextParts.{text_of_part}
use Rattle.text_out.proofs.Growing.{no_room, on_err_any}
use Rattle.text_out.proofs.text_parts.put_each.Goals as goal

pub returns-in_err-put_part-clause-full : goal.returns-in_err-put_part-clause-full
returns-in_err-put_part-clause-full c =
    on_err_any c.from_residual.result (no_room text_of_part c.args.parts.now
    c.loop-part.part-index _ c.args.text.now.items c.loop-part.text.items _ _ _ _
    c.loop-part-test.true c.args.text.now.ok.0 c.loop-part.text.ok.0 c.loop-part.invariant.0
    c.loop-part.invariant.1
    c.in_err-put_part.ensures.full)
