use Rattle.std.proofs.Common.{rules, codes}
use Rattle.std.specs.Option.{ok_or}
use Rattle.clap.specs.Matches.{found_of}
use Rattle.clap.specs.Walk.{first_of, rows_of}
use Rattle.run_settings.specs.declared.run_output.RunOutput.TheVariants.{Gaps}
use Rattle.command_words.specs.Readings.{Gives, Then}
use Rattle.command_words.specs.RunRequests.{ReadsStyled}
use Rattle.command_words.specs.StatsOutputs.{row_format_by}
use Rattle.command_words.specs.TypeRequests.{gap_format}
use Rattle.command_words.specs.declared.refusal.Refusal.TheVariants.{BadFormat}
use Rattle.command_words.proofs.Subcommands.{onward}
use Rattle.command_words.proofs.type_words.row_format_of.Goals as goal

pub returns : goal.returns
returns c =
    let rows = rows_of (found_of c.args.stats.now) in
    onward (Gives (row_format_by (first_of (codes "format") rows)))
    (λ plain. Then (ReadsStyled rows c.args.venues (Gaps plain))
    (λ output. Gives (ok_or (gap_format output) BadFormat)))
    c.in_ok-plain.plain c.ok_or.result (search rules)
    (onward (ReadsStyled rows c.args.venues (Gaps c.in_ok-plain.plain))
    (λ output. Gives (ok_or (gap_format output) BadFormat)) c.in_ok-output.output c.ok_or.result
    (search rules) (search rules))
