use Rattle.std.proofs.Common.{◌≡◌, ◌-◌, ◌^◌, List, drop}
use Rattle.std.specs.Prelude.{map}
use Rattle.line_arbiter.specs.Packets.{Input}
use Rattle.line_arbiter.specs.Streams.{place_of, stream_of}
use Rattle.line_arbiter.specs.States.{KeepsAllButSent}
use Rattle.line_arbiter.specs.Fits.{Fits}
use Rattle.feed_text.specs.ReplayEvents.{item_taken}
use Rattle.feed_text.specs.ReplayStates.{state_of_replay}
use Rattle.feed_text.proofs.Tales.{Took}
use Rattle.feed_text.proofs.venue.publish_each.Given as goal

abbrev pub invariant-loop-numbered : goal.invariant-loop-numbered
invariant-loop-numbered g l = record {
  fits : (P : List Input) → Fits l.fn.arbiter P → Fits l.arbiter P;
  kept : KeepsAllButSent l.fn.arbiter l.arbiter;
  venues : l.output.journal.venues ≡ l.fn.output.journal.venues;
  emitted : (P : List Input) → Fits l.fn.arbiter P
      → Took (record { takes = g.K.EventSink.takes; fails = g.K.EventSink.fails })
      (map (item_taken l.venue) (drop (place_of P l.fn.arbiter.sent) (stream_of P)))
      (map (item_taken l.venue) (drop (place_of P l.arbiter.sent) (stream_of P)))
      (state_of_replay l.fn.output) (state_of_replay l.output);
}

abbrev pub decreases-loop-numbered : goal.decreases-loop-numbered
decreases-loop-numbered g l = 2 ^ 64 - l.arbiter.sent
