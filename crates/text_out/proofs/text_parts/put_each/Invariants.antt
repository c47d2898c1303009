use Rattle.std.proofs.Common.{◌≡◌, ◌≤◌, ◌++◌, take}
use Rattle.std.specs.Prelude.{vec_capacity}
use Rattle.text_out.specs.TextParts.{text_of_parts}
use Rattle.text_out.proofs.text_parts.put_each.Given as goal

abbrev pub invariant-loop-part : goal.invariant-loop-part
invariant-loop-part l = (l.text.items ≡ l.fn.text.items
    ++ text_of_parts (take l.part-index l.parts))
    × (vec_capacity l.fn.text ≤ vec_capacity l.text)
