use Rattle.std.proofs.Common.{ap, sym, ◌∙◌}
use Rattle.line_arbiter.specs.Streams.{place_of, stream_of}
use Rattle.line_arbiter.specs.laws.Placing.{place_next}
use Rattle.feed_core.proofs.VenueMoves.{drain_more, drain_done}
use Rattle.feed_core.proofs.venue.drain.Goals as goal

pub loop-next-preserved : goal.loop-next-preserved
loop-next-preserved c = record {
  fits = λ packets f. c.in-Some.ensures.fits packets (c.loop-next.invariant.fits packets f);
  lane = λ packets f. drain_more (stream_of packets) (place_of packets c.loop-next.lines.sent)
      (place_of packets c.take_ready.new.self.sent) c.loop-next.lane c.put.new.lane _ c.in-Some.next
      (c.in-Some.ensures.stream packets (c.loop-next.invariant.fits packets f))
      (ap (place_of packets) c.in-Some.ensures.after.sent
      ∙ place_next (c.loop-next.invariant.fits packets f)) c.in_ok-put.ensures.ok
      (c.loop-next.invariant.lane packets f);
}

pub returns : goal.returns
returns c = λ packets f. drain_done (stream_of packets) (place_of packets c.loop-next.lines.sent)
    c.loop-next.lane _ (sym c.in_default.is ∙ c.take_ready.ensures.stream packets
    (c.loop-next.invariant.fits packets f)) (c.loop-next.invariant.lane packets f)
