use Rattle.std.proofs.Common.{refl, sym, subst, arith, Ok, Err}
use Rattle.std.proofs.lemmas.Result.{err_from_is_err_and}
use Rattle.feed_text.specs.declared.replay_sink.PublishStop.{PublishStop}
use Rattle.feed_text.specs.declared.standing_gaps.StandingGaps.{StandingGaps}
use Rattle.capture_records.specs.Capture.{CaptureRecord, skip_record}
use Rattle.feed_text.specs.Following.{EmitsNext}
use Rattle.capture_records.specs.Formats.{TimedRecord, timed_record}
use Rattle.feed_text.specs.ReplayStates.{state_of_replay}
use Rattle.feed_text.specs.Rules.{point_after}
use Rattle.feed_text.specs.Standings.{Knows}
use Rattle.feed_text.proofs.PutInSteps.{put_in_less}
use Rattle.feed_text.proofs.PuttingIn.{of_coming, put_within, renew_journal, renew_less, renew_puts, stands_for, waits_knows}
use Rattle.feed_text.proofs.Taking.{put_emits}
use Rattle.feed_text.proofs.put_in.put_in_next.Goals as goal

pub skip_to-requires-clause-venue : goal.skip_to-requires-clause-venue
skip_to-requires-clause-venue g c =
    let some = c.requires.follow in
    let keeps = c.note_for.ensures c.args.config.now some.0 refl some.1 some.2 in
    let r : TimedRecord = of_coming c.args.coming.now in
    let puts = c.in-Some.ensures r some.0 (stands_for c.args.coming.now) some.1 keeps in
    let within = put_within c.args.config.now some.0 r
    (skip_record c.in-Some.skip.venue c.in-Some.skip.number) puts in
    let count = some.1.count in
    omega (arith, within, count)

pub returns-in_err-skip_to-clause-puts : goal.returns-in_err-skip_to-clause-puts
returns-in_err-skip_to-clause-puts g c = λ r at is f knows.
    let p = err_from_is_err_and c.from_residual.result c.from_residual.ensures.1 in
    let keeps = c.note_for.ensures c.args.config.now at refl f knows in
    let x : CaptureRecord = skip_record c.in-Some.skip.venue c.in-Some.skip.number in
    let stop : PublishStop = c.in_err-skip_to.field-0.0 in
    rw (p.1, p.2) (record {
      put_in = x;
      is = c.in-Some.ensures r at is f keeps;
      emits = put_emits _ c.args.config.now x at c.args.venues.now c.skip_to.new.self
          (state_of_replay c.args.output.now) (state_of_replay c.skip_to.new.output) (Err stop)
          c.requires.gaps f c.in_err-skip_to.ensures;
    })

pub returns-in-Some-clause-journal : goal.returns-in-Some-clause-journal
returns-in-Some-clause-journal g c =
    let some = c.requires.follow in
    let e : EmitsNext (record { takes = g.K.EventSink.takes; fails = g.K.EventSink.fails })
    c.args.config.now.window c.args.config.now.gaps
    (skip_record c.in-Some.skip.venue c.in-Some.skip.number) some.0.histories
    (state_of_replay c.args.output.now) (state_of_replay c.skip_to.new.output)
    c.skip_to.new.self.items (Ok tt) = put_emits _ c.args.config.now
    (skip_record c.in-Some.skip.venue c.in-Some.skip.number) some.0 c.args.venues.now
    c.skip_to.new.self (state_of_replay c.args.output.now)
    (state_of_replay c.skip_to.new.output) (Ok tt) c.requires.gaps some.1
    c.in_ok-skip_to.ensures in
    e.emits.venues

pub returns-in-Some-clause-less : goal.returns-in-Some-clause-less
returns-in-Some-clause-less g c = λ done.
    let some = c.requires.follow in
    let keeps = c.note_for.ensures c.args.config.now some.0 refl some.1 some.2 in
    let r : TimedRecord = of_coming c.args.coming.now in
    let x : CaptureRecord = skip_record c.in-Some.skip.venue c.in-Some.skip.number in
    put_in_less (record { takes = g.K.EventSink.takes; fails = g.K.EventSink.fails })
    c.args.config.now some.0 r x c.args.venues.now.items c.skip_to.new.self.items
    (state_of_replay c.args.output.now) (state_of_replay c.skip_to.new.output)
    (c.in-Some.ensures r some.0 (stands_for c.args.coming.now) some.1 keeps) some.1
    (put_emits _ c.args.config.now x some.0 c.args.venues.now c.skip_to.new.self
    (state_of_replay c.args.output.now) (state_of_replay c.skip_to.new.output) (Ok tt)
    c.requires.gaps some.1 c.in_ok-skip_to.ensures)

pub returns-in-Some-clause-puts : goal.returns-in-Some-clause-puts
returns-in-Some-clause-puts g c = λ r at is f knows.
    let keeps = c.note_for.ensures c.args.config.now at refl f knows in
    let x : CaptureRecord = skip_record c.in-Some.skip.venue c.in-Some.skip.number in
    let e : EmitsNext (record { takes = g.K.EventSink.takes; fails = g.K.EventSink.fails })
    c.args.config.now.window c.args.config.now.gaps x at.histories
    (state_of_replay c.args.output.now) (state_of_replay c.skip_to.new.output)
    c.skip_to.new.self.items (Ok tt) = put_emits _ c.args.config.now x at c.args.venues.now
    c.skip_to.new.self (state_of_replay c.args.output.now)
    (state_of_replay c.skip_to.new.output) (Ok tt) c.requires.gaps f c.in_ok-skip_to.ensures in
    record {
      put_in = x;
      is = c.in-Some.ensures r at is f keeps;
      emits = e;
      knows = subst (λ (k : StandingGaps). Knows c.args.config.now k
          (point_after c.args.config.now at (timed_record x r.time) e.after))
          (sym c.wait_for.ensures)
          (waits_knows c.args.config.now c.note_for.new.kept at (timed_record x r.time)
          c.in-Some.skip.venue c.args.coming.now.time e.after keeps refl is.time);
    }

pub returns-clause-journal : goal.returns-clause-journal
returns-clause-journal g c =
    let some = c.requires.follow in
    let keeps = c.note_for.ensures c.args.config.now some.0 refl some.1 some.2 in
    let r : TimedRecord = of_coming c.args.coming.now in
    let is = stands_for c.args.coming.now in
    renew_journal (record { takes = g.K.EventSink.takes; fails = g.K.EventSink.fails })
    c.args.config.now c.args.coming.now r some.0 c.args.venues.now c.renew_before.new.self
    (state_of_replay c.args.output.now) (state_of_replay c.renew_before.new.output) is
    (c.in_default.ensures r some.0 is some.1 keeps) c.requires.gaps some.1
    c.renew_before.result
    (c.renew_before.ensures.renews c.args.config.now.window some.0.histories some.1)

pub returns-clause-less : goal.returns-clause-less
returns-clause-less g c =
    let some = c.requires.follow in
    let keeps = c.note_for.ensures c.args.config.now some.0 refl some.1 some.2 in
    let r : TimedRecord = of_coming c.args.coming.now in
    let is = stands_for c.args.coming.now in
    renew_less (record { takes = g.K.EventSink.takes; fails = g.K.EventSink.fails })
    c.args.config.now c.args.coming.now r some.0 c.args.venues.now c.renew_before.new.self
    (state_of_replay c.args.output.now) (state_of_replay c.renew_before.new.output) is
    (c.in_default.ensures r some.0 is some.1 keeps) c.requires.gaps some.1
    c.renew_before.result
    (c.renew_before.ensures.renews c.args.config.now.window some.0.histories some.1)

pub returns-clause-puts : goal.returns-clause-puts
returns-clause-puts g c = λ r at is f knows.
    let keeps = c.note_for.ensures c.args.config.now at refl f knows in
    renew_puts (record { takes = g.K.EventSink.takes; fails = g.K.EventSink.fails })
    c.args.config.now c.args.coming.now r at c.args.venues.now c.renew_before.new.self
    (state_of_replay c.args.output.now) (state_of_replay c.renew_before.new.output) is
    (c.in_default.ensures r at is f keeps) c.requires.gaps f c.note_for.new.kept
    c.wait_for-2.new.self c.renew_before.result keeps c.wait_for-2.ensures
    (c.renew_before.ensures.renews c.args.config.now.window at.histories f)
