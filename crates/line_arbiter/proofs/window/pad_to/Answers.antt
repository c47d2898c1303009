use Rattle.std.proofs.Common.{◌∙◌, arith}
use Rattle.line_arbiter.proofs.Places.{blank_more}
use Rattle.line_arbiter.proofs.window.pad_to.Goals as goal

pub loop-places-preserved : goal.loop-places-preserved
loop-places-preserved c = record {
  items = rw c.add_place.ensures.items (blank_more c.loop-places.places.items _ c.args.count
      (omega (arith, c.loop-places-test.true, c.len.ensures.len)) ∙ c.loop-places.invariant.items);
  capacity = c.add_place.ensures.capacity ∙ c.loop-places.invariant.capacity;
}
