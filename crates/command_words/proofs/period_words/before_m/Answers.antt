use Rattle.std.proofs.Common.{arith}
use Rattle.std.proofs.lemmas.Str.Pattern.{strip_suffix_char}
use Rattle.command_words.proofs.period_words.before_m.Goals as goal

pub returns : goal.returns
returns c =
    strip_suffix_char 109 c.args.front.now c.strip_suffix.result c.strip_suffix.ensures.cases
    (omega arith)
