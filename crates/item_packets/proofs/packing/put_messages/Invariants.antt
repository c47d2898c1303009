use Rattle.std.proofs.Common.{◌≡◌, ◌-◌, ◌≤◌, List, length, take}
use Rattle.std.specs.List.{AllByRecursion}
use Rattle.feed_types.specs.declared.item.Item.{Item}
use Rattle.feed_types.specs.Sessions.{numbered_from}
use Rattle.item_packets.specs.Carried.{IsMessageItem}
use Rattle.item_packets.specs.Packed.{AddsPacked}
use Rattle.item_packets.proofs.packing.put_messages.Given as goal

abbrev pub invariant-packets : goal.invariant-packets
invariant-packets l = record {
  within : l.from ≤ length l.items;
  room : length l.packet ≡ 65507;
  puts : (its : List Item) → l.items ≡ numbered_from l.number its
      → AllByRecursion IsMessageItem its
      → AddsPacked l.session (take l.from l.items) l.fn.out.items l.out.items;
}

abbrev pub decreases-packets : goal.decreases-packets
decreases-packets l = length l.items - l.from
