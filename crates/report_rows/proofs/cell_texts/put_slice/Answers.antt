use Rattle.std.proofs.Common.{arith, ap, ◌∙◌, List, ℕ, ◌++◌, length}
use Rattle.std.proofs.lemmas.List.{take_all}
use Rattle.report_rows.proofs.Appending.{appends_from}
use Rattle.report_rows.proofs.cell_texts.put_slice.Goals as goal

pub returns : goal.returns
returns c =
    let all = take_all c.loop-byte.byte-index c.args.bytes.now c.loop-byte-test.false in
    appends_from c.args.text.now c.loop-byte.text c.args.bytes.now (length c.args.bytes.now)
    (c.loop-byte.invariant.put ∙ ap (λ (t : List ℕ). c.args.text.now.items ++ t) all)
    (omega (arith, c.loop-byte.invariant.short, c.loop-byte.auto.byte-index-end))
    c.loop-byte.invariant.size
