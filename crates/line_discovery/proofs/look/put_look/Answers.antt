use Rattle.std.proofs.Common.{◌≡◌, ℕ, List, ◌++◌, codes, subst}
use Rattle.std.specs.Prelude.{OnOk}
use Rattle.line_discovery.proofs.look.put_look.Goals as goal

pub returns : goal.returns
returns c =
    subst (λ (name : List ℕ). OnOk c.put_parts.result (c.put_parts.new.text.items
    ≡ c.args.text.now.items ++ (codes "looks like ITCH: " ++ (name
    ++ codes "  nbbo normalise turns its messages into quotations\n")))) c.session_name.ensures
    c.put_parts.ensures.ok
