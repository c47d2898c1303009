use Rattle.capture_records.proofs.Ranges.{range_drop}
use Rattle.capture_records.proofs.read_buffer.ReadBuffer.advance.Goals as goal

pub returns : goal.returns
returns g c = range_drop _ _ _ _ _ c.self.view_is c.self.invariant.0 c.self.invariant.1 c.requires
