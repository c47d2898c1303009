use Rattle.std.proofs.Common.{inl}
use Rattle.command_words.proofs.TimeReading.{in_seconds}
use Rattle.command_words.proofs.time_words.read_time.Goals as goal

pub returns-in-Some : goal.returns-in-Some
returns-in-Some c = inl c.in-Some.ensures

pub returns-in-None : goal.returns-in-None
returns-in-None c =
    in_seconds c.args.text.now c.read_seconds.result c.in-None.ensures c.read_seconds.ensures
