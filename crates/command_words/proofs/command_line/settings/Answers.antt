use Rattle.std.proofs.Common.{map}
use Rattle.std.specs.Prelude.{string_bytes}
use Rattle.command_words.specs.CommandLine.{ReadsTask}
use Rattle.command_words.proofs.Subcommands.{words_read}
use Rattle.command_words.proofs.command_line.settings.Goals as goal

pub returns-clause-reads : goal.returns-clause-reads
returns-clause-reads c =
    words_read ReadsTask (map (λ word. string_bytes word) c.args.words.now) _ c.task_of.result
    c.in_ok-parsed.ensures.taken c.in_ok-parsed.ensures.values c.task_of.ensures.reads
