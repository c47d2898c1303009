use Rattle.std.proofs.Common.{◌≡◌, ◌+◌, ◌++◌, take}
use Rattle.feed_types.specs.Sessions.{numbered_from}
use Rattle.venue_normaliser.proofs.opening.put_items.Given as goal

abbrev pub invariant-loop-item : goal.invariant-loop-item
invariant-loop-item l = record {
  number : l.number ≡ l.first + l.item-index;
  put : l.out.items ≡ l.fn.out.items ++ numbered_from l.first (take l.item-index l.items);
}
