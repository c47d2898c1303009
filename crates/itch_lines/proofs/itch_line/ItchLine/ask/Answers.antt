use Rattle.std.proofs.Common.{refl}
use Rattle.itch_lines.specs.laws.Normalised.{normalised_nothing}
use Rattle.itch_lines.proofs.Passing.{gone_on}
use Rattle.itch_lines.proofs.itch_line.ItchLine.ask.Goals as goal

pub returns-in_default-clause-brings : goal.returns-in_default-clause-brings
returns-in_default-clause-brings g c =
    normalised_nothing g.S.LineSource.brings g.met.S.LineSource.brings_nothing c.args.self.now

pub returns-then-eq-clause-brings : goal.returns-then-eq-clause-brings
returns-then-eq-clause-brings g c = rw (← c.self.view_is)
    (gone_on g.S.LineSource.brings _ _ refl refl (λ e. tt) c.request.ensures.brings refl)

pub returns-else-eq-clause-brings : goal.returns-else-eq-clause-brings
returns-else-eq-clause-brings g c = rw (← c.self.view_is)
    (gone_on g.S.LineSource.brings _ _ refl refl (λ e. e) c.request.ensures.brings refl)

pub returns-in_default-request-clause-brings : goal.returns-in_default-request-clause-brings
returns-in_default-request-clause-brings g c = rw (← c.self.view_is)
    (gone_on g.S.LineSource.brings _ _ refl refl (λ e. e) c.request.ensures.brings refl)
