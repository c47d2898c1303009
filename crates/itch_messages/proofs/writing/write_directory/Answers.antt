use Rattle.std.proofs.Common.{◌∙◌, ap, arith}
use Rattle.itch_messages.specs.Events.{order_event_of}
use Rattle.itch_messages.proofs.ReadBack.{order_event_of-directory}
use Rattle.itch_messages.proofs.writing.write_directory.Goals as goal

pub returns-clause-bytes : goal.returns-clause-bytes
returns-clause-bytes c = cc

pub returns-clause-event : goal.returns-clause-event
returns-clause-event c =
    ap order_event_of (returns-clause-bytes c)
    ∙ order_event_of-directory c.args.locate
    c.args.round_lot c.args.symbol c.symbol_message.ensures.symbol (omega arith) (omega arith)
