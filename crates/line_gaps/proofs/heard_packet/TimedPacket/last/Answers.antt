use Rattle.std.proofs.Common.{arith}
use Rattle.line_gaps.proofs.heard_packet.TimedPacket.last.Goals as goal

pub returns-clause-reaches : goal.returns-clause-reaches
returns-clause-reaches c =
    omega (arith, c.saturating_sub.ensures, c.saturating_sub.type_inv, c.saturating_add.ensures)
