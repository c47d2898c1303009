use Rattle.std.proofs.Common.{◌≡◌, subst}
use Rattle.std.specs.Prelude.{IfOk}
use Rattle.clap.specs.Simple.{App, app_of}
use Rattle.command_words.specs.Commands.{listening_forms}
use Rattle.command_words.specs.OptionForms.{with_option_rules}
use Rattle.command_words.proofs.listen_command.listen_command.Goals as goal

pub returns-clause-app : goal.returns-clause-app
returns-clause-app c =
    subst (λ (app : App). IfOk c.with_options.result
    (λ command. app_of command ≡ with_option_rules app listening_forms))
    c.in_ok-receiving_command.ensures.app c.with_options.ensures.app
