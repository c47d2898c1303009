use Rattle.std.proofs.Common.{◌+◌, ◌^◌, ◌≤◌, length}
use Rattle.venue_normaliser.proofs.Keeping.{IsKeptTo}
use Rattle.venue_normaliser.proofs.message_slots.keep_packet.Given as goal

abbrev pub invariant-loop-message : goal.invariant-loop-message
invariant-loop-message l = record {
  room : l.first + l.place + length l.messages ≤ 2 ^ 64;
  kept : IsKeptTo l.sent l.packet l.fn.slots l.slots l.messages l.place;
}

abbrev pub decreases-loop-message : goal.decreases-loop-message
decreases-loop-message l = length l.messages
