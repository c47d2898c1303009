use Rattle.std.proofs.Common.{[], refl, subst}
use Rattle.itch_lines.specs.Lines.{EndsInFault}
use Rattle.itch_lines.specs.declared.source_end.SourceEnd.{SourceEnd}
use Rattle.itch_lines.specs.laws.Normalised.{normalised_more}
use Rattle.itch_lines.proofs.Passing.{gone_on}
use Rattle.itch_lines.proofs.itch_line.ItchLine.read.Goals as goal

pub returns-in-Ok-Some-clause-brings : goal.returns-in-Ok-Some-clause-brings
returns-in-Ok-Some-clause-brings g c = rw (← c.self.view_is)
    (normalised_more g.S.LineSource.brings g.met.S.LineSource.brings_more _ c.take.new.self
    c.look_at_gap.new.self [] []
    (c.take.ensures.brings c.self.inside.source
    (rw c.in-Ok-Some.field-0-is at c.in-Ok-Some.ensures.brings))
    c.look_at_gap.ensures.brings)

pub returns-in-Ok-None-clause-brings : goal.returns-in-Ok-None-clause-brings
returns-in-Ok-None-clause-brings g c =
    let open_is = rw (← c.self.view_is) at c.requires.open in
    rw (← c.self.view_is) (gone_on g.S.LineSource.brings _ _ refl refl
    (λ e. subst (λ (s : SourceEnd). EndsInFault s) open_is e)
    (rw c.in-Ok-None.field-0-is at c.in-Ok-None.ensures.brings) refl)

pub returns-in-Err-clause-brings : goal.returns-in-Err-clause-brings
returns-in-Err-clause-brings g c = rw (← c.self.view_is)
    (gone_on g.S.LineSource.brings _ _ refl refl (λ e. tt) c.in-Err.ensures.brings refl)
