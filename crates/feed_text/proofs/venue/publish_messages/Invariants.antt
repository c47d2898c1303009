use Rattle.std.proofs.Common.{◌≡◌, ◌+◌, ◌^◌, ◌≤◌, length}
use Rattle.std.specs.Prelude.{map}
use Rattle.feed_types.specs.Sessions.{numbered_from}
use Rattle.quote_payload.specs.Payload.{item_of}
use Rattle.feed_text.specs.ReplayEvents.{item_taken}
use Rattle.feed_text.specs.ReplayStates.{state_of_replay}
use Rattle.feed_text.proofs.Tales.{Took}
use Rattle.feed_text.proofs.venue.publish_messages.Given as goal

abbrev pub invariant-loop-message : goal.invariant-loop-message
invariant-loop-message g l = record {
  room : l.first + l.place + length l.messages ≤ 2 ^ 64;
  count : l.place + length l.messages ≡ length l.packet.messages;
  venues : l.output.journal.venues ≡ l.fn.output.journal.venues;
  emitted : Took (record { takes = g.K.EventSink.takes; fails = g.K.EventSink.fails })
      (map (item_taken l.venue) (numbered_from l.packet.number (map item_of l.packet.messages)))
      (map (item_taken l.venue) (numbered_from (l.first + l.place) (map item_of l.messages)))
      (state_of_replay l.fn.output) (state_of_replay l.output);
}

abbrev pub decreases-loop-message : goal.decreases-loop-message
decreases-loop-message g l = length l.messages
