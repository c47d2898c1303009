use Rattle.std.proofs.Common.{sym, ap}
use Rattle.std.specs.Prelude.{is_ok}
use Rattle.command_words.proofs.TimeReading.{not_spelled, spelled}
use Rattle.command_words.proofs.time_words.read_instant.Goals as goal

pub returns-in-Err : goal.returns-in-Err
returns-in-Err c =
    not_spelled c.args.text.now (ap is_ok (sym c.in-Err.ensures.value))

pub returns-in-Ok : goal.returns-in-Ok
returns-in-Ok c =
    spelled c.args.text.now c.in-Ok.time.nanosecond c.nanoseconds_of.result
    (sym c.in-Ok.ensures.value) c.nanoseconds_of.ensures
