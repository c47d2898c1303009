use Rattle.std.proofs.Common.{◌∙◌, ap, arith}
use Rattle.itch_messages.specs.Events.{order_event_of}
use Rattle.itch_messages.proofs.ReadBack.{order_event_of-operational_halt}
use Rattle.itch_messages.proofs.writing.write_operational_halt.Goals as goal

pub returns-clause-bytes : goal.returns-clause-bytes
returns-clause-bytes c = cc

pub returns-clause-event : goal.returns-clause-event
returns-clause-event c =
    ap order_event_of (returns-clause-bytes c)
    ∙ order_event_of-operational_halt
    c.args.locate c.args.symbol c.args.halted c.symbol_message.ensures.symbol (omega arith)
