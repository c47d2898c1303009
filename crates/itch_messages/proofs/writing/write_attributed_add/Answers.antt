use Rattle.std.proofs.Common.{◌∙◌, ap, arith}
use Rattle.itch_messages.specs.Events.{order_event_of}
use Rattle.itch_messages.proofs.ReadBack.{order_event_of-attributed_add}
use Rattle.itch_messages.proofs.writing.write_attributed_add.Goals as goal

pub returns-clause-bytes : goal.returns-clause-bytes
returns-clause-bytes c = cc

pub returns-clause-event : goal.returns-clause-event
returns-clause-event c =
    ap order_event_of (returns-clause-bytes c)
    ∙ order_event_of-attributed_add
    c.args.order.now c.args.attribution (omega arith) c.order_message.ensures.in_range
