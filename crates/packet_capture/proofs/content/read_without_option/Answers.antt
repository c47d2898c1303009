use Rattle.std.proofs.Common.{sym}
use Rattle.packet_capture.proofs.SilentPackets.{silent}
use Rattle.packet_capture.proofs.content.read_without_option.Goals as goal

pub returns-clause-silent : goal.returns-clause-silent
returns-clause-silent c =
    silent c.args.order c.args.bytes.now (sym c.requires.kind) c.requires.room
