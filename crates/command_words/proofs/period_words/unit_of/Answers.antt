use Rattle.std.proofs.Common.{List, ℕ, Some, None, sym, subst, arith}
use Rattle.std.proofs.lemmas.Str.Pattern.{strip_suffix_char}
use Rattle.command_words.specs.PeriodWords.{IsInUnit}
use Rattle.command_words.proofs.PeriodReading.{no_unit}
use Rattle.command_words.proofs.period_words.unit_of.Goals as goal

pub returns-in-Some : goal.returns-in-Some
returns-in-Some c =
    subst (λ (t : List ℕ). IsInUnit c.unit_before.result.0 c.unit_before.result.1.now t)
    (sym (strip_suffix_char 115 c.args.text.now (Some c.in-Some.front) c.in-Some.ensures.cases
    (omega arith)))
    c.unit_before.ensures

pub returns-in-None : goal.returns-in-None
returns-in-None c =
    no_unit c.args.text.now
    (strip_suffix_char 115 c.args.text.now None c.in-None.ensures.cases (omega arith))
