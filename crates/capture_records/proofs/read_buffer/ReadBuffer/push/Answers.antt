use Rattle.std.proofs.Common.{List, ℕ, ◌++◌, arith, ap, ◌∙◌}
use Rattle.capture_records.proofs.Ranges.{range_more}
use Rattle.capture_records.proofs.read_buffer.ReadBuffer.push.Goals as goal

pub returns : goal.returns
returns g c =
    range_more _ _ _ _ _ _ (c.make_room-end.ensures.same ∙ c.self.view_is) (omega arith)
    (omega arith) (omega arith) c.place.ensures.front
    ∙ ap (λ (xs : List ℕ). c.args.self.now ++ xs) c.place.ensures.more
