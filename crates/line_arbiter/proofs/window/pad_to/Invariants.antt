use Rattle.std.proofs.Common.{◌≡◌, ◌++◌, ◌-◌, length, replicate, None}
use Rattle.line_arbiter.proofs.window.pad_to.Given as goal

abbrev pub invariant-loop-places : goal.invariant-loop-places
invariant-loop-places l = record {
  items : l.places.items ++ replicate (l.count - length l.places.items)
      None ≡ l.initial.places.items ++ replicate (l.count - length l.initial.places.items) None;
  capacity : l.places.capacity ≡ l.initial.places.capacity;
}

abbrev pub decreases-loop-places : goal.decreases-loop-places
decreases-loop-places l = l.count - length l.places.items
