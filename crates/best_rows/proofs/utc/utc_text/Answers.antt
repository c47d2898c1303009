use Rattle.std.proofs.Common.{Ok, ap, ◌∙◌, length}
use Rattle.jiff_fmt.specs.Printer.{options}
use Rattle.best_rows.proofs.UtcReading.{nine_places, utc_length, utc_printed, utc_read}
use Rattle.best_rows.proofs.utc.utc_text.Goals as goal

pub returns-clause-text : goal.returns-clause-text
returns-clause-text c =
    let nine = nine_places (options c.new.result) (options c.precision.result) c.new.ensures
    c.precision.ensures in
    utc_printed c.precision.result c.instant_of.result c.args.time c.timestamp_text.result.bytes
    nine c.instant_of.ensures c.timestamp_text.ensures

pub returns-clause-size : goal.returns-clause-size
returns-clause-size c =
    let nine = nine_places (options c.new.result) (options c.precision.result) c.new.ensures
    c.precision.ensures in
    ap length (utc_printed c.precision.result c.instant_of.result c.args.time
    c.timestamp_text.result.bytes nine c.instant_of.ensures c.timestamp_text.ensures)
    ∙ utc_length c.args.time

pub returns-clause-back : goal.returns-clause-back
returns-clause-back c =
    let nine = nine_places (options c.new.result) (options c.precision.result) c.new.ensures
    c.precision.ensures in
    utc_read c.precision.result c.instant_of.result c.timestamp_text.result.bytes nine
    c.timestamp_text.ensures ∙ ap (λ n. Ok n) c.instant_of.ensures
