use Rattle.std.proofs.Common.{ap, ◌∙◌}
use Rattle.clap.proofs.WalkLemmas.{one_text-rows}
use Rattle.clap.specs.Matches.{found_of}
use Rattle.command_words.specs.OptionValues.{number_given}
use Rattle.command_words.proofs.OptionReading.{number_read, number_unread}
use Rattle.command_words.proofs.option_values.number_of.Goals as goal

pub returns-in-Some : goal.returns-in-Some
returns-in-Some c =
    number_read _ c.in-Some.number c.in-Some.ensures.none
    (λ t e. (c.in-Some.ensures.value t e).0)
    ∙ ap number_given (one_text-rows (found_of c.args.options.now) c.args.name.now)

pub returns-in-None : goal.returns-in-None
returns-in-None c =
    number_unread _ (λ t e. (c.in-None.ensures.value t e).1.0)
    ∙ ap number_given (one_text-rows (found_of c.args.options.now) c.args.name.now)
