use Rattle.std.proofs.Common.{rules, ◌∷◌, [], ◌∙◌, ap, length, sym, subst}
use Rattle.std.specs.Prelude.{Ok, Err, drop, map}
use Rattle.std.proofs.lemmas.Result.{err_from_is_err_and}
use Rattle.feed_types.specs.Sessions.{numbered_from}
use Rattle.quote_payload.specs.Payload.{item_of}
use Rattle.line_arbiter.specs.Streams.{place_of, stream_of}
use Rattle.feed_text.specs.ReplayEvents.{item_taken, packet_answered}
use Rattle.feed_text.specs.ReplayStates.{SinkTaking, state_of_replay}
use Rattle.feed_text.specs.declared.replay_sink.ReplaySink.{ReplaySink}
use Rattle.feed_text.specs.Following.{ReplayVenue, Follows, EmitsOutcome}
use Rattle.feed_text.proofs.Tales.{SinkLaws, laws_by, tells_stop}
use Rattle.feed_text.proofs.Passing.{passed_all, passed_part, passed_told}
use Rattle.feed_text.proofs.VenueSteps.{answered_told}
use Rattle.feed_text.proofs.venue.VenueReplay.take_packet.Given.{Over}
use Rattle.feed_text.proofs.venue.VenueReplay.take_packet.Goals as goal

laws_of : (g : Over)
    → SinkLaws (record { takes = g.K.EventSink.takes; fails = g.K.EventSink.fails })
laws_of g = laws_by g.met.K.EventSink.takes_none g.met.K.EventSink.takes_more
    g.met.K.EventSink.fails_after g.met.K.EventSink.fails_longer

pub publish_messages-requires : goal.publish_messages-requires
publish_messages-requires g c = rw (c.in_ok-tell_answer.ensures.venues
    ∙ ap (λ (r : ReplaySink g.row.K.Denot). r.journal.venues) c.look_ahead.ensures) c.requires

pub publish_ready-requires : goal.publish_ready-requires
publish_ready-requires g c = rw (c.in_ok-publish_messages.ensures.venues
    ∙ c.in_ok-tell_answer.ensures.venues
    ∙ ap (λ (r : ReplaySink g.row.K.Denot). r.journal.venues) c.look_ahead.ensures) c.requires

pub returns : goal.returns
returns g c = λ width h f.
    let taking : SinkTaking g.row.K.Denot =
    record { takes = g.K.EventSink.takes; fails = g.K.EventSink.fails } in
    let before : ReplayVenue = record {
      arbiter = c.self.inside.arbiter;
      sent_before = c.self.inside.sent_before;
      opens_after = c.self.inside.opens_after;
    } in
    let answered = packet_answered c.args.venue c.args.line c.args.packet.now.number
    (length c.args.packet.now.messages) c.args.bytes (Ok c.take_next-outcome.result) in
    (subst (λ (r : ReplaySink g.row.K.Denot). EmitsOutcome taking width c.args.venue c.args.line
    c.args.packet.now c.args.bytes h (state_of_replay r)
    (state_of_replay c.publish_ready.new.output)
    (record {
      arbiter = c.publish_ready.new.arbiter;
      sent_before = c.self.inside.sent_before;
      opens_after = c.self.inside.opens_after;
    }) c.publish_ready.result) c.look_ahead.ensures
    (passed_told width c.args.venue h before c.take_next-outcome.new.self
    c.publish_ready.new.arbiter
    c.args.line c.args.packet.now c.args.bytes c.take_next-outcome.result
    (state_of_replay c.look_ahead.new.output)
    (state_of_replay c.publish_ready.new.output) c.publish_ready.result
    (subst (λ (v : ReplayVenue). Follows width c.args.venue v h) (sym c.self.view_is) f)
    (λ packets fits. c.is_next.ensures.brings packets c.args.line fits c.if-not-is_next.false)
    c.take_next-outcome.ensures.answer c.take_next-outcome.ensures.fits
    c.take_next-outcome.ensures.sent c.take_next-outcome.ensures.kept
    (λ from packets fits sends. passed_all (laws_of g) c.args.venue (place_of packets from)
    (place_of packets c.take_next-outcome.new.self.sent)
    (numbered_from c.args.packet.now.number (map item_of c.args.packet.now.messages))
    (stream_of packets) answered (state_of_replay c.look_ahead.new.output)
    (state_of_replay c.tell_answer.new.output) (state_of_replay c.publish_messages.new.output)
    (state_of_replay c.publish_ready.new.output) c.publish_ready.result sends
    c.in_ok-tell_answer.ensures c.in_ok-publish_messages.ensures
    (c.publish_ready.ensures.emits packets fits))
    c.publish_ready.ensures.sent))

pub returns-in_err-publish_messages : goal.returns-in_err-publish_messages
returns-in_err-publish_messages g c = λ width h f.
    let p = err_from_is_err_and c.from_residual-in_err-publish_messages.result
    c.from_residual-in_err-publish_messages.ensures.1 in
    let taking : SinkTaking g.row.K.Denot =
    record { takes = g.K.EventSink.takes; fails = g.K.EventSink.fails } in
    let before : ReplayVenue = record {
      arbiter = c.self.inside.arbiter;
      sent_before = c.self.inside.sent_before;
      opens_after = c.self.inside.opens_after;
    } in
    let answered = packet_answered c.args.venue c.args.line c.args.packet.now.number
    (length c.args.packet.now.messages) c.args.bytes (Ok c.take_next-outcome.result) in
    rw (p.1, p.2) (subst (λ (r : ReplaySink g.row.K.Denot).
    EmitsOutcome taking width c.args.venue c.args.line
    c.args.packet.now c.args.bytes h (state_of_replay r)
    (state_of_replay c.publish_messages.new.output)
    (record {
      arbiter = c.take_next-outcome.new.self;
      sent_before = c.self.inside.sent_before;
      opens_after = c.self.inside.opens_after;
    }) (Err c.in_err-publish_messages.field-0.0)) c.look_ahead.ensures
    (passed_told width c.args.venue h before c.take_next-outcome.new.self
    c.take_next-outcome.new.self
    c.args.line c.args.packet.now c.args.bytes c.take_next-outcome.result
    (state_of_replay c.look_ahead.new.output)
    (state_of_replay c.publish_messages.new.output) (Err c.in_err-publish_messages.field-0.0)
    (subst (λ (v : ReplayVenue). Follows width c.args.venue v h) (sym c.self.view_is) f)
    (λ packets fits. c.is_next.ensures.brings packets c.args.line fits c.if-not-is_next.false)
    c.take_next-outcome.ensures.answer c.take_next-outcome.ensures.fits
    c.take_next-outcome.ensures.sent c.take_next-outcome.ensures.kept
    (λ from packets fits sends. passed_part (laws_of g) c.args.venue (place_of packets from)
    (place_of packets c.take_next-outcome.new.self.sent)
    (numbered_from c.args.packet.now.number (map item_of c.args.packet.now.messages))
    (stream_of packets) answered (state_of_replay c.look_ahead.new.output)
    (state_of_replay c.tell_answer.new.output) (state_of_replay c.publish_messages.new.output)
    c.in_err-publish_messages.field-0.0 sends
    c.in_ok-tell_answer.ensures c.in_err-publish_messages.ensures)
    tt))

pub returns-in_err-tell_answer : goal.returns-in_err-tell_answer
returns-in_err-tell_answer g c = λ width h f.
    let p = err_from_is_err_and c.from_residual.result c.from_residual.ensures.1 in
    let taking : SinkTaking g.row.K.Denot =
    record { takes = g.K.EventSink.takes; fails = g.K.EventSink.fails } in
    let before : ReplayVenue = record {
      arbiter = c.self.inside.arbiter;
      sent_before = c.self.inside.sent_before;
      opens_after = c.self.inside.opens_after;
    } in
    let answered = packet_answered c.args.venue c.args.line c.args.packet.now.number
    (length c.args.packet.now.messages) c.args.bytes (Ok c.take_next-outcome.result) in
    rw (p.1, p.2) (subst (λ (r : ReplaySink g.row.K.Denot).
    EmitsOutcome taking width c.args.venue c.args.line
    c.args.packet.now c.args.bytes h (state_of_replay r) (state_of_replay c.tell_answer.new.output)
    (record {
      arbiter = c.take_next-outcome.new.self;
      sent_before = c.self.inside.sent_before;
      opens_after = c.self.inside.opens_after;
    }) (Err c.in_err-tell_answer.field-0.0)) c.look_ahead.ensures
    (passed_told width c.args.venue h before c.take_next-outcome.new.self
    c.take_next-outcome.new.self
    c.args.line c.args.packet.now c.args.bytes c.take_next-outcome.result
    (state_of_replay c.look_ahead.new.output) (state_of_replay c.tell_answer.new.output)
    (Err c.in_err-tell_answer.field-0.0)
    (subst (λ (v : ReplayVenue). Follows width c.args.venue v h) (sym c.self.view_is) f)
    (λ packets fits. c.is_next.ensures.brings packets c.args.line fits c.if-not-is_next.false)
    c.take_next-outcome.ensures.answer c.take_next-outcome.ensures.fits
    c.take_next-outcome.ensures.sent c.take_next-outcome.ensures.kept
    (λ from packets fits sends. tells_stop taking (state_of_replay c.look_ahead.new.output)
    (state_of_replay c.tell_answer.new.output) (answered ∷ [])
    (map (item_taken c.args.venue) (drop (place_of packets from) (stream_of packets)))
    c.in_err-tell_answer.field-0.0 c.in_err-tell_answer.ensures)
    tt))

pub returns-in-Some : goal.returns-in-Some
returns-in-Some g c = λ width h f.
    answered_told width c.args.venue h
    (record {
      arbiter = c.self.inside.arbiter;
      sent_before = c.self.inside.sent_before;
      opens_after = c.self.inside.opens_after;
    })
    c.self.inside.arbiter c.publish_answer.new.arbiter c.args.line
    c.args.packet.now c.args.bytes (Ok c.in-Some.outcome)
    (state_of_replay c.args.output.now) (state_of_replay c.publish_answer.new.output)
    c.publish_answer.result
    (subst (λ (v : ReplayVenue). Follows width c.args.venue v h) (sym c.self.view_is) f)
    c.in-Some.ensures.answer (λ packets fits. c.in-Some.ensures.fits packets c.args.line fits)
    (search rules)
    c.publish_answer.ensures.emits c.publish_answer.ensures.sent
