use Rattle.std.proofs.Common.{◌≡◌, ◌+◌, ◌≤◌, length, refl, sym, ap, ◌∙◌, arith}
use Rattle.std.specs.Prelude.{map}
use Rattle.std.proofs.lemmas.Result.{err_from_is_err_and}
use Rattle.line_arbiter.specs.Streams.{place_of, stream_of}
use Rattle.line_arbiter.specs.laws.Placing.{place_next, place_within}
use Rattle.line_arbiter.specs.laws.FitsHistory.{keeping_all_but_sent_is_reflexive, keeping_all_but_sent_is_transitive}
use Rattle.feed_text.specs.ReplayEvents.{item_taken}
use Rattle.feed_text.specs.ReplayStates.{state_of_replay}
use Rattle.feed_text.proofs.Rest.{rest_at, rest_end, rest_next, no_more}
use Rattle.feed_text.proofs.Tales.{SinkLaws, laws_by, took_none, took_one, took_all, took_stop}
use Rattle.feed_text.proofs.venue.publish_each.Given.{Over}
use Rattle.feed_text.proofs.venue.publish_each.Goals as goal

laws_of : (g : Over)
    → SinkLaws (record { takes = g.K.EventSink.takes; fails = g.K.EventSink.fails })
laws_of g = laws_by g.met.K.EventSink.takes_none g.met.K.EventSink.takes_more
    g.met.K.EventSink.fails_after g.met.K.EventSink.fails_longer

pub loop-numbered-init : goal.loop-numbered-init
loop-numbered-init g c = record {
  fits = λ P f. f;
  kept = keeping_all_but_sent_is_reflexive;
  venues = refl;
  emitted = λ P f. took_none (laws_of g) _ (state_of_replay c.args.output.now);
}

pub loop-numbered-preserved : goal.loop-numbered-preserved
loop-numbered-preserved g c = record {
  fits = λ P f. c.in-Some.ensures.fits P (c.loop-numbered.invariant.fits P f);
  kept = keeping_all_but_sent_is_transitive c.loop-numbered.invariant.kept
      c.in-Some.ensures.after.kept;
  venues = c.in_ok-take_item.ensures.venues ∙ c.loop-numbered.invariant.venues;
  emitted = λ P f.
      let fits = c.loop-numbered.invariant.fits P f in
      let one_more : place_of P c.take_ready.new.self.sent
      ≡ place_of P c.loop-numbered.arbiter.sent + 1 =
      ap (place_of P) c.in-Some.ensures.after.sent ∙ place_next fits in
      took_one (laws_of g) (item_taken c.args.venue c.in-Some.numbered) _
      (ap (map (item_taken c.args.venue))
      (rest_next (stream_of P) (place_of P c.loop-numbered.arbiter.sent)
      (place_of P c.take_ready.new.self.sent) c.in-Some.numbered (c.in-Some.ensures.stream P fits)
      one_more))
      (c.loop-numbered.invariant.emitted P f) c.in_ok-take_item.ensures;
}

pub returns : goal.returns
returns g c =
    let left = rw c.in_default.is at c.take_ready.ensures.left in
    record {
      emits = λ P f.
          let here = c.take_ready.ensures.stream P (c.loop-numbered.invariant.fits P f) in
          took_all (ap (map (item_taken c.args.venue))
          (rest_end (stream_of P) (place_of P c.loop-numbered.arbiter.sent) (sym c.in_default.is
          ∙ here))) (c.loop-numbered.invariant.emitted P f);
      sent = rw left (record {
        fits = λ P f.
            let fits = c.loop-numbered.invariant.fits P f in
            let here = c.take_ready.ensures.stream P fits in
            let most : length (stream_of P) ≤ place_of P c.loop-numbered.arbiter.sent =
            no_more (stream_of P) (place_of P c.loop-numbered.arbiter.sent)
            (sym c.in_default.is ∙ here) in
            let least : place_of P c.loop-numbered.arbiter.sent ≤ length (stream_of P) =
            place_within fits in
            (fits, omega arith);
        kept = c.loop-numbered.invariant.kept;
      });
    }

pub returns-in_err-take_item : goal.returns-in_err-take_item
returns-in_err-take_item g c =
    let p = err_from_is_err_and c.from_residual.result c.from_residual.ensures.1 in
    rw (p.1, p.2) (record {
      emits = λ P f.
          took_stop (laws_of g) (state_of_replay c.take_item.new.self)
          (item_taken c.args.venue c.in-Some.numbered) _ c.in_err-take_item.field-0.0
          (ap (map (item_taken c.args.venue))
          (rest_at (stream_of P) (place_of P c.loop-numbered.arbiter.sent) c.in-Some.numbered
          (c.in-Some.ensures.stream P (c.loop-numbered.invariant.fits P f))))
          (c.loop-numbered.invariant.emitted P f) c.in_err-take_item.ensures;
      sent = tt;
    })
