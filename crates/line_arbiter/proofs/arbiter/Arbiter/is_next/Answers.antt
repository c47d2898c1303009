use Rattle.line_arbiter.proofs.Ordering.{brings, is_exact, is_so}
use Rattle.line_arbiter.proofs.arbiter.Arbiter.is_next.Goals as goal

pub returns-clause-exact : goal.returns-clause-exact
returns-clause-exact g c packets fits = is_exact _ _ _ c.number-number.ensures.content
    c.goes_on.ensures packets fits

pub returns-clause-brings : goal.returns-clause-brings
returns-clause-brings g c packets line fits so = brings _ _ _ c.number-number.ensures.content
    c.goes_on.ensures packets line fits so

pub returns-clause-next : goal.returns-clause-next
returns-clause-next g c so = is_so _ _ _ c.goes_on.ensures so
