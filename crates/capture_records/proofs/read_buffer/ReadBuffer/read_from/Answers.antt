use Rattle.std.proofs.Common.{rules, arith, sym, ◌∙◌, ◌+◌, [], append-nil, slice_range}
use Rattle.capture_records.proofs.Ranges.{range_kept, range_more}
use Rattle.capture_records.proofs.read_buffer.ReadBuffer.read_from.Goals as goal

pub returns-in-Ok-clause-went : goal.returns-in-Ok-clause-went
returns-in-Ok-clause-went g c = λ _. record {
  bytes = slice_range c.read_behind.new.bytes.items c.make_room-end.result
      (c.make_room-end.result + c.in-Ok.count);
  given = c.in-Ok.ensures.some (omega arith);
  behind = range_more _ _ _ _ _ _ (c.make_room-end.ensures.same ∙ c.self.view_is) (omega arith)
      (omega arith) c.in-Ok.ensures.count c.read_behind.ensures.front;
}

pub returns-in-Err-Interrupted-clause-went : goal.returns-in-Err-Interrupted-clause-went
returns-in-Err-Interrupted-clause-went g c = λ _. record {
  bytes = [];
  given = c.read_behind.ensures.interrupted (search rules);
  behind = range_kept _ _ _ _ _ (c.make_room-end.ensures.same ∙ c.self.view_is) (omega arith)
      (omega arith) (omega arith) c.read_behind.ensures.front ∙ sym (append-nil _);
}
