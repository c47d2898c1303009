use Rattle.std.proofs.Common.{◌+◌, ◌^◌, ◌≤◌, length}
use Rattle.venue_normaliser.proofs.Making.{IsAmid}
use Rattle.venue_normaliser.proofs.putting_out.put_packet.Given as goal

abbrev pub invariant-loop-message : goal.invariant-loop-message
invariant-loop-message l = record {
  room : l.first + l.place + length l.messages ≤ 2 ^ 64;
  amid : IsAmid l.packet.messages l.messages l.packet.number l.place l.fn.book l.book
      l.fn.out.items l.out.items;
}

abbrev pub decreases-loop-message : goal.decreases-loop-message
decreases-loop-message l = length l.messages
