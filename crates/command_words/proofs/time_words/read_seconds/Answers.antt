use Rattle.std.proofs.Common.{ℕ, List, lit<, subst, sym}
use Rattle.command_words.specs.TimeWords.{SpellsNumber}
use Rattle.command_words.proofs.time_words.read_seconds.Goals as goal

pub returns-in_default-number_in : goal.returns-in_default-number_in
returns-in_default-number_in c = λ time spells.
    c.in_default-number_in.ensures spells.seconds
    (subst (λ (digits : List ℕ). SpellsNumber digits spells.seconds)
    (sym (c.in-Some.ensures.byte (lit< tt) (λ w o h. h)).0) spells.whole)
