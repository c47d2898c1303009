use Rattle.std.specs.Box.{box_value}
use Rattle.clap.specs.Matches.{found_of}
use Rattle.clap.specs.Walk.{rows_of}
use Rattle.clap.specs.declared.parser.matches.ArgMatches.TheViews.{out-ArgMatches, out-SubCommand}
use Rattle.command_words.proofs.Subcommands.{rows_found}
use Rattle.command_words.proofs.command_line.options_of.Goals as goal

pub returns : goal.returns
returns c =
    rows_found (λ b. (out-SubCommand (box_value b)).name.now)
    (λ b. rows_of (found_of (out-SubCommand (box_value b)).matches))
    (λ options. rows_of (found_of options.now)) c.args.command.now
    (out-ArgMatches c.args.matches.now).subcommand c.subcommand_matches.result
    c.subcommand_matches.ensures.found c.subcommand_matches.ensures.rows
