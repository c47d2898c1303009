use Rattle.std.proofs.Common.{arith}
use Rattle.capture_records.specs.Capture.{record_of}
use Rattle.capture_records.specs.Formats.{timed_record}
use Rattle.feed_text.proofs.Taking.{plain_taken}
use Rattle.feed_text.proofs.Tales.{SinkLaws, laws_by}
use Rattle.feed_text.proofs.put_in.follow_rule.Given.{Over}
use Rattle.feed_text.proofs.put_in.follow_rule.Goals as goal

laws_of : (g : Over)
    → SinkLaws (record { takes = g.K.EventSink.takes; fails = g.K.EventSink.fails })
laws_of g = laws_by g.met.K.EventSink.takes_none g.met.K.EventSink.takes_more
    g.met.K.EventSink.fails_after g.met.K.EventSink.fails_longer

pub returns-then-is_plain-clause-taken : goal.returns-then-is_plain-clause-taken
returns-then-is_plain-clause-taken g c = λ at f k.
    plain_taken (laws_of g) c.args.config.now
    (timed_record (record_of c.args.next.now) c.args.output.now.time) at _ _ c.args.kept.now
    (c.is_plain.ensures c.if-is_plain.true) f

pub put_in_all-requires-clause-venue : goal.put_in_all-requires-clause-venue
put_in_all-requires-clause-venue g c =
    let here = c.coming_of-coming.ensures.venue in
    let within = c.requires.kind.venue in
    omega (arith, here, within)

pub returns-clause-taken : goal.returns-clause-taken
returns-clause-taken g c = λ at f k.
    c.put_in_all.ensures.taken (timed_record (record_of c.args.next.now) c.args.output.now.time) at
    c.coming_of-coming.ensures f k
