use Rattle.text_out.specs.Members.{writing_of}
use Rattle.std.proofs.Common.{◌≡◌, ℕ, ◌-◌, ◌≤◌, List, length, take}
use Rattle.std.specs.List.{AllByRecursion}
use Rattle.feed_types.specs.declared.item.Item.{Item}
use Rattle.feed_types.specs.Sessions.{numbered_from}
use Rattle.normalising.specs.Carried.{IsMessageItem}
use Rattle.normalising.specs.Writes.{PutsPackets}
use Rattle.normalising.proofs.output_packets.put_messages.Given as goal

abbrev pub invariant-packets : goal.invariant-packets
invariant-packets g l = record {
  within : l.from ≤ length l.items;
  room : length l.packet ≡ 65507;
  form : l.page.form ≡ l.fn.page.form;
  puts : (last : ℕ) (its : List Item) → l.items ≡ numbered_from l.number its
      → AllByRecursion IsMessageItem its → PutsPackets
      (writing_of g.W.TextOut) l.fn.page.form l.origin last (take l.from l.items)
      l.fn.writer l.writer l.fn.page.page l.page.page;
}

abbrev pub decreases-packets : goal.decreases-packets
decreases-packets g l = length l.items - l.from
