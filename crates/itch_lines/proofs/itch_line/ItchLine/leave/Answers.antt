use Rattle.std.proofs.Common.{[], ap, refl, Ok}
use Rattle.item_packets.specs.Packed.{bytes_of_each}
use Rattle.itch_lines.proofs.Passing.{given_up_or_not, has_failed}
use Rattle.itch_lines.proofs.itch_line.ItchLine.leave.Goals as goal

pub returns-in-Ok-clause-brings : goal.returns-in-Ok-clause-brings
returns-in-Ok-clause-brings g c =
    let none = rw (← c.self.view_is) at c.requires.none in
    rw (c.note_given.ensures, ← c.self.view_is) (given_up_or_not g.S.LineSource.brings
    g.met.S.LineSource.brings_nothing _ (bytes_of_each c.give_up.new.made.items) c.in-Ok.given
    none (λ e. ap bytes_of_each (c.in-Ok.ensures.none (ap (λ x. Ok x) e))) c.in-Ok.ensures.gave)

pub returns-in-Err-clause-brings : goal.returns-in-Err-clause-brings
returns-in-Err-clause-brings g c =
    let none = rw (← c.self.view_is) at c.requires.none in
    rw (c.fail.ensures, ← c.self.view_is) (has_failed g.S.LineSource.brings _ _ refl refl
    (λ e. tt) [] (g.met.S.LineSource.brings_nothing c.self.inside.source) none
    c.in-Err.ensures.end tt)
