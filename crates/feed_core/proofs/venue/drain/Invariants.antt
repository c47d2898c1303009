use Rattle.std.proofs.Common.{◌≡◌, ◌-◌, ◌^◌, ◌++◌, List, drop}
use Rattle.line_arbiter.specs.Packets.{Input}
use Rattle.line_arbiter.specs.Streams.{place_of, stream_of}
use Rattle.line_arbiter.specs.Fits.{Fits}
use Rattle.feed_core.proofs.venue.drain.Given as goal

abbrev pub invariant-loop-next : goal.invariant-loop-next
invariant-loop-next l = record {
  fits : (packets : List Input) → Fits l.fn.lines packets → Fits l.lines packets;
  lane : (packets : List Input) → Fits l.fn.lines packets
      → record l.lane {
        sent = l.lane.sent ++ drop (place_of packets l.lines.sent)
            (stream_of packets);
      } ≡ record l.fn.lane {
        sent = l.fn.lane.sent
            ++ drop (place_of packets l.fn.lines.sent) (stream_of packets);
      };
}

abbrev pub decreases-loop-next : goal.decreases-loop-next
decreases-loop-next l = 2 ^ 64 - l.lines.sent
