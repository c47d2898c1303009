use Rattle.std.proofs.Common.{◌≤◌, length, sym, ap, ◌∙◌, arith}
use Rattle.std.specs.Prelude.{map}
use Rattle.line_arbiter.specs.Streams.{place_of, stream_of}
use Rattle.line_arbiter.specs.laws.Placing.{place_within}
use Rattle.line_arbiter.specs.laws.FitsHistory.{keeping_all_but_sent_is_reflexive}
use Rattle.feed_text.specs.ReplayEvents.{item_taken}
use Rattle.feed_text.specs.ReplayStates.{state_of_replay}
use Rattle.feed_text.proofs.Rest.{rest_end, no_more}
use Rattle.feed_text.proofs.Tales.{SinkLaws, laws_by, took_none, took_all}
use Rattle.feed_text.proofs.venue.publish_ready.Given.{Over}
use Rattle.feed_text.proofs.venue.publish_ready.Goals as goal

laws_of : (g : Over)
    → SinkLaws (record { takes = g.K.EventSink.takes; fails = g.K.EventSink.fails })
laws_of g = laws_by g.met.K.EventSink.takes_none g.met.K.EventSink.takes_more
    g.met.K.EventSink.fails_after g.met.K.EventSink.fails_longer

pub returns-in-None : goal.returns-in-None
returns-in-None g c = record {
  emits = λ P f.
      let here = c.next_ready.ensures.stream P f in
      took_all (ap (map (item_taken c.args.venue))
      (rest_end (stream_of P) (place_of P c.args.arbiter.now.sent) (sym c.in-None.is ∙ here)))
      (took_none (laws_of g) _ (state_of_replay c.args.output.now));
  sent = record {
    fits = λ P f.
        let here = c.next_ready.ensures.stream P f in
        let most : length (stream_of P) ≤ place_of P c.args.arbiter.now.sent = no_more (stream_of P)
        (place_of P c.args.arbiter.now.sent) (sym c.in-None.is ∙ here) in
        let least : place_of P c.args.arbiter.now.sent ≤ length (stream_of P) = place_within f in
        (f, omega arith);
    kept = keeping_all_but_sent_is_reflexive;
  };
}
