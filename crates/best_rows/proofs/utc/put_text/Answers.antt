use Rattle.std.proofs.Common.{arith, ap, ◌∙◌, List, ℕ, ◌++◌}
use Rattle.std.proofs.lemmas.List.{take_all}
use Rattle.best_rows.proofs.Quoted.{appends_from}
use Rattle.best_rows.proofs.utc.put_text.Goals as goal

pub returns : goal.returns
returns c =
    let all = take_all c.loop-byte.byte-index c.args.spelled.now c.loop-byte-test.false in
    appends_from c.args.text.now c.loop-byte.text c.args.spelled.now 30
    (c.loop-byte.invariant.put ∙ ap (λ (t : List ℕ). c.args.text.now.items ++ t) all)
    (omega (arith, c.loop-byte.invariant.short, c.loop-byte.auto.byte-index-end, c.requires.short))
    c.loop-byte.invariant.size
