use Rattle.std.proofs.Common.{◌≡◌, ℕ, List, ◌++◌, codes, subst}
use Rattle.std.specs.Prelude.{OnOk}
use Rattle.line_discovery.proofs.standing.put_left_row.Goals as goal

pub returns : goal.returns
returns c =
    subst (λ (name : List ℕ). OnOk c.put_parts.result (c.put_parts.new.text.items
    ≡ c.args.text.now.items ++ (codes "left out of the words: " ++ (name ++ (codes "  "
    ++ (c.args.reason.now ++ codes "\n")))))) c.session_name.ensures c.put_parts.ensures.ok
