use Rattle.std.proofs.Common.{refl}
use Rattle.itch_lines.proofs.Passing.{gone_on}
use Rattle.itch_lines.proofs.itch_line.ItchLineLineSourceAnything.now_ms.Goals as goal

pub returns-clause-brings : goal.returns-clause-brings
returns-clause-brings g c = rw (← c.self.view_is)
    (gone_on g.S.LineSource.brings _ _ refl refl (λ e. e) c.now_ms.ensures.brings refl)
