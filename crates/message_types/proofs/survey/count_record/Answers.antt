use Rattle.message_types.proofs.TypeSteps.{record_counted}
use Rattle.message_types.proofs.survey.count_record.Goals as goal

pub returns-then-inside : goal.returns-then-inside
returns-then-inside c =
    record_counted c.args.inside c.args.what.now c.in-Datagram.venue c.in-Datagram.line
    c.in-Datagram.bytes c.args.counts.now c.count_datagram.new.self c.in-Datagram.is
    c.if-inside.true c.count_datagram.ensures
