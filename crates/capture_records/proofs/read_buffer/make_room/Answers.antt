use Rattle.std.proofs.Common.{arith}
use Rattle.capture_records.proofs.Ranges.{range_longer}
use Rattle.capture_records.proofs.read_buffer.make_room.Goals as goal

pub returns-clause-same : goal.returns-clause-same
returns-clause-same g c =
    range_longer c.bring_to_front.new.bytes.items c.lengthen.new.bytes.items _ _ _
    c.bring_to_front.ensures.same
    (omega arith) (omega (arith, c.bring_to_front.ensures.len)) c.lengthen.ensures.longer
    c.lengthen.ensures.same
