use Rattle.std.proofs.Common.{◌≡◌, ◌≤◌, ◌++◌, take}
use Rattle.std.specs.Prelude.{vec_capacity}
use Rattle.text_out.specs.TextParts.{all_labelled_in}
use Rattle.text_out.proofs.text_parts.put_each_labelled.Given as goal

abbrev pub invariant-loop-labelled : goal.invariant-loop-labelled
invariant-loop-labelled l = (l.text.items ≡ l.fn.text.items
    ++ all_labelled_in l.style (take l.labelled-index l.numbers))
    × (vec_capacity l.fn.text ≤ vec_capacity l.text)
