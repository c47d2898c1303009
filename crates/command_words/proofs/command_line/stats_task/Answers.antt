use Rattle.std.proofs.Common.{rules, ◌≡◌, codes, Bool, true, false, Ok}
use Rattle.std.specs.Prelude.{Result}
use Rattle.clap.specs.Matches.{found_of}
use Rattle.clap.specs.Walk.{one_of, rows_of}
use Rattle.command_words.specs.CommandLine.{OfFlag}
use Rattle.command_words.specs.OptionValues.{is_flag_set}
use Rattle.command_words.specs.Readings.{Gives, Then}
use Rattle.command_words.specs.RunRequests.{ReadsStats}
use Rattle.command_words.specs.TypeRequests.{ReadsTypes}
use Rattle.command_words.specs.declared.refusal.Refusal.{Refusal}
use Rattle.command_words.specs.declared.task.Task.{Task}
use Rattle.command_words.specs.declared.task.Task.TheVariants.{CountTypes, Run}
use Rattle.command_words.proofs.command_line.stats_task.Goals as goal

-- where the flag is given, and where it isn't
with_flag : (flag : Bool) (given other : Result Task Refusal → Type 0)
    (result : Result Task Refusal) → flag ≡ true → given result → OfFlag flag given other result
with_flag true given other result is read = read
with_flag false given other result is read = absurd (cc)

without_flag : (flag : Bool) (given other : Result Task Refusal → Type 0)
    (result : Result Task Refusal) → flag ≡ false → other result → OfFlag flag given other result
without_flag true given other result is read = absurd (cc)
without_flag false given other result is read = read

pub returns-then-flag_of-clause-reads : goal.returns-then-flag_of-clause-reads
returns-then-flag_of-clause-reads c =
    let rows = rows_of (found_of c.args.stats.now) in
    with_flag (is_flag_set (one_of (codes "types") rows))
    (Then (ReadsTypes rows) (λ settings. Gives (Ok (CountTypes settings))))
    (Then (ReadsStats rows) (λ settings. Gives (Ok (Run settings)))) c.types_task.result
    (search rules) c.types_task.ensures.reads

pub returns-clause-reads : goal.returns-clause-reads
returns-clause-reads c =
    let rows = rows_of (found_of c.args.stats.now) in
    without_flag (is_flag_set (one_of (codes "types") rows))
    (Then (ReadsTypes rows) (λ settings. Gives (Ok (CountTypes settings))))
    (Then (ReadsStats rows) (λ settings. Gives (Ok (Run settings)))) c.report_task.result
    (search rules) c.report_task.ensures.reads
