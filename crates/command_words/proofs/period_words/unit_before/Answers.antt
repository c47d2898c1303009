use Rattle.std.proofs.Common.{List, ℕ, ◌++◌, codes, ap, refl}
use Rattle.command_words.proofs.period_words.unit_before.Goals as goal

pub returns-in-Some : goal.returns-in-Some
returns-in-Some c = ap (λ (l : List ℕ). l ++ codes "s") c.in-Some.ensures

pub returns-in-None : goal.returns-in-None
returns-in-None c = (refl, c.in-None.ensures)
