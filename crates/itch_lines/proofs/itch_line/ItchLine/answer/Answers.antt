use Rattle.std.proofs.Common.{◌∷◌, ◌∙◌, ap, refl, sym, ℕ, List}
use Rattle.venue_lines.specs.Datagrams.{bytes_of}
use Rattle.item_packets.specs.Packed.{bytes_of_each}
use Rattle.itch_lines.proofs.Passing.{gone_on, one_brought}
use Rattle.itch_lines.proofs.itch_line.ItchLine.answer.Goals as goal

pub returns-in-Some-clause-brings : goal.returns-in-Some-clause-brings
returns-in-Some-clause-brings g c =
    let left = bytes_of_each c.pop_front.new.self.items in
    rw (← c.self.view_is) (one_brought g.S.LineSource.brings _ _ refl refl (λ e. e)
    (bytes_of c.received_at.result) (g.met.S.LineSource.brings_nothing c.self.inside.source)
    (ap bytes_of_each c.in-Some.ensures.items
    ∙ ap (λ (b : List ℕ). b ∷ left) (sym (c.received_at.ensures.bytes ∙ c.new.ensures.bytes))))

pub returns-in-Ended-clause-brings : goal.returns-in-Ended-clause-brings
returns-in-Ended-clause-brings g c = rw (← c.self.view_is)
    (gone_on g.S.LineSource.brings _ _ refl refl (λ e. e)
    (g.met.S.LineSource.brings_nothing c.self.inside.source)
    (sym (ap bytes_of_each c.in_default.ensures.items)))

pub returns-clause-brings : goal.returns-clause-brings
returns-clause-brings g c = rw (← c.self.view_is)
    (gone_on g.S.LineSource.brings _ _ refl refl (λ e. tt)
    (g.met.S.LineSource.brings_nothing c.self.inside.source)
    (sym (ap bytes_of_each c.in_default.ensures.items)))
