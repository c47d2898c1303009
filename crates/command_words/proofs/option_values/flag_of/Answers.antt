use Rattle.std.proofs.Common.{ap, ◌∙◌}
use Rattle.clap.proofs.WalkLemmas.{one_text-rows}
use Rattle.clap.specs.Matches.{found_of}
use Rattle.command_words.specs.OptionValues.{is_flag_set}
use Rattle.command_words.proofs.OptionReading.{flag_read, flag_unread}
use Rattle.command_words.proofs.option_values.flag_of.Goals as goal

pub returns-in-Some : goal.returns-in-Some
returns-in-Some c =
    flag_read _ c.in-Some.flag c.in-Some.ensures.none c.in-Some.ensures.value
    ∙ ap is_flag_set (one_text-rows (found_of c.args.options.now) c.args.name.now)

pub returns-in-None : goal.returns-in-None
returns-in-None c =
    flag_unread _ (λ t e. (c.in-None.ensures.value t e).1.0)
    ∙ ap is_flag_set (one_text-rows (found_of c.args.options.now) c.args.name.now)
