use Rattle.std.proofs.Common.{arith, rules}
use Rattle.std.proofs.lemmas.List.{take_all}
use Rattle.std.proofs.lemmas.List.Sums.{suffix_len-take_no, suffix_len-take_yes}
use Rattle.line_discovery.proofs.session_word.trimmed_len.Goals as goal

pub loop-len-init : goal.loop-len-init
loop-len-init c = search (rules, take_all)

pub loop-len-preserved : goal.loop-len-preserved
loop-len-preserved c = grind (arith, suffix_len-take_yes)

pub returns-else-name-len-eq32 : goal.returns-else-name-len-eq32
returns-else-name-len-eq32 c = grind (arith, suffix_len-take_no)
