use Rattle.command_words.proofs.PeriodReading.{few_units, is_length}
use Rattle.command_words.proofs.period_words.length_of.Goals as goal

pub returns-in-Err : goal.returns-in-Err
returns-in-Err c = λ length is.
    c.in-Err.ensures.value.0 (is.numeral, few_units c.args.unit _ is.most)

pub returns-in-Ok : goal.returns-in-Ok
returns-in-Ok c =
    let parsed = c.in-Ok.ensures.value.0 in
    is_length c.args.unit c.args.number.now c.in-Ok.count c.milliseconds_in.result
    c.of_milliseconds.result parsed.0.0 parsed.1 c.milliseconds_in.ensures
    c.of_milliseconds.ensures
