use Rattle.std.proofs.Common.{rules, codes}
use Rattle.clap.specs.Matches.{found_of}
use Rattle.clap.specs.Walk.{first_of, rows_of}
use Rattle.command_words.specs.Readings.{Gives}
use Rattle.command_words.specs.TimeStyles.{styled_in}
use Rattle.command_words.specs.VenueLists.{ReadsVenues}
use Rattle.command_words.proofs.Subcommands.{onward}
use Rattle.command_words.proofs.run_words.styled_of.Goals as goal

pub returns : goal.returns
returns c =
    let rows = rows_of (found_of c.args.run.now) in
    onward (Gives (styled_in c.args.plain (first_of (codes "times") rows)
    (first_of (codes "lines") rows)))
    (λ styled. ReadsVenues (first_of (codes "venues") rows) c.args.venues styled)
    c.in_ok-styled.styled c.read_venues.result (search rules) (search rules)
