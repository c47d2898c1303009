use Rattle.std.proofs.Common.{◌∷◌, [], refl, sym, subst}
use Rattle.std.specs.Prelude.{Err, drop, map}
use Rattle.std.proofs.lemmas.Result.{err_from_is_err_and}
use Rattle.line_arbiter.specs.Streams.{place_of, stream_of}
use Rattle.feed_text.specs.ReplayEvents.{item_taken, skip_answered}
use Rattle.feed_text.specs.ReplayStates.{state_of_replay}
use Rattle.feed_text.specs.Following.{ReplayVenue, GivesUp}
use Rattle.feed_text.proofs.Tales.{SinkLaws, laws_by, tells_more, tells_stop}
use Rattle.feed_text.proofs.VenueSteps.{skip_told}
use Rattle.feed_text.proofs.venue.VenueReplay.skip_to.Given.{Over}
use Rattle.feed_text.proofs.venue.VenueReplay.skip_to.Goals as goal

laws_of : (g : Over)
    → SinkLaws (record { takes = g.K.EventSink.takes; fails = g.K.EventSink.fails })
laws_of g = laws_by g.met.K.EventSink.takes_none g.met.K.EventSink.takes_more
    g.met.K.EventSink.fails_after g.met.K.EventSink.fails_longer

pub returns : goal.returns
returns g c = λ width gaps h f.
    let v : ReplayVenue = record {
      arbiter = c.self.inside.arbiter;
      sent_before =
          c.self.inside.sent_before;
      opens_after = c.self.inside.opens_after;
    } in
    skip_told width c.args.venue gaps h c.args.number v c.publish_each.new.arbiter
    c.give_up-answer.result
    (state_of_replay c.args.output.now) (state_of_replay c.publish_each.new.output)
    c.publish_each.result
    (subst (λ (w : ReplayVenue). GivesUp width c.args.venue c.args.number h w
    c.give_up-answer.result) (sym c.self.view_is) (c.give_up-answer.ensures
    width c.args.venue h f))
    (λ packets fits.
    tells_more (laws_of g) (state_of_replay c.publish_each.new.output) (skip_answered c.args.venue
    c.args.number c.give_up-answer.result ∷ [])
    (map (item_taken c.args.venue) (drop (place_of packets c.self.inside.arbiter.sent)
    (stream_of packets))) c.publish_each.result
    (c.in_ok-tell.ensures (skip_answered c.args.venue c.args.number c.give_up-answer.result)
    refl refl)
    (c.publish_each.ensures.emits packets fits))
    c.publish_each.ensures.sent

pub returns-in_err-tell : goal.returns-in_err-tell
returns-in_err-tell g c = λ width gaps h f.
    let p = err_from_is_err_and c.from_residual.result c.from_residual.ensures.1 in
    rw (p.1, p.2)
    (skip_told width c.args.venue gaps h c.args.number c.give_up-answer.new.self
    c.give_up-answer.new.self.arbiter c.give_up-answer.result
    (state_of_replay c.args.output.now) (state_of_replay c.tell.new.self)
    (Err c.in_err-tell.field-0.0)
    (c.give_up-answer.ensures width c.args.venue h f)
    (λ packets fits.
    tells_stop (record { takes = g.K.EventSink.takes; fails = g.K.EventSink.fails })
    (state_of_replay c.args.output.now) (state_of_replay c.tell.new.self)
    (skip_answered c.args.venue c.args.number c.give_up-answer.result ∷ [])
    (map (item_taken c.args.venue) (drop (place_of packets c.give_up-answer.new.self.arbiter.sent)
    (stream_of packets))) c.in_err-tell.field-0.0
    (c.in_err-tell.ensures (skip_answered c.args.venue c.args.number c.give_up-answer.result) refl
    refl))
    tt)

pub publish_each-requires : goal.publish_each-requires
publish_each-requires g c = rw (c.in_ok-tell.ensures (skip_answered c.args.venue c.args.number
    c.give_up-answer.result) refl refl).venues c.requires
