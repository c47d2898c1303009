use Rattle.std.proofs.Common.{[], inl, inr, refl}
use Rattle.message_types.proofs.Counting.{counted_none}
use Rattle.message_types.proofs.counts.TypeCounts.count_datagram.Goals as goal

pub returns-in-Ok : goal.returns-in-Ok
returns-in-Ok c =
    let spelled = c.in-Ok.ensures.spelled in (
      c.in-Ok.packet.messages,
      inl (c.in-Ok.packet, spelled.0, spelled.1, refl),
      c.count_packet.ensures,
    )

pub returns-in-Err : goal.returns-in-Err
returns-in-Err c = (
  [],
  inr (c.in-Err.field-0, c.in-Err.ensures.fault, refl),
  counted_none c.args.self.now c.args.venue c.args.line,
)
