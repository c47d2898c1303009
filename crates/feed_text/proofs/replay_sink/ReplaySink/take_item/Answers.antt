use Rattle.std.proofs.Common.{◌<◌, ◌+◌, length, refl, arith}
use Rattle.std.proofs.Math.Nat.{lt_of_not-le}
use Rattle.std.proofs.lemmas.Result.{err_from_is_err_and}
use Rattle.feed_types.specs.declared.journal.Entry.TheVariants.{Consumed}
use Rattle.journal_book.specs.Changes.{notices_from}
use Rattle.feed_text.specs.ReplayEvents.{item_taken}
use Rattle.event_sinks.specs.SinkEvents.{told_item}
use Rattle.feed_text.proofs.Tales.{SinkLaws, laws_by, item_full, entry_goes, entry_fails_first, entry_fails_later}
use Rattle.feed_text.proofs.replay_sink.ReplaySink.take_item.Given.{Over}
use Rattle.feed_text.proofs.replay_sink.ReplaySink.take_item.Goals as goal

laws_of : (g : Over)
    → SinkLaws (record { takes = g.K.EventSink.takes; fails = g.K.EventSink.fails })
laws_of g = laws_by g.met.K.EventSink.takes_none g.met.K.EventSink.takes_more
    g.met.K.EventSink.fails_after g.met.K.EventSink.fails_longer

pub returns-then-not-has_room : goal.returns-then-not-has_room
returns-then-not-has_room g c =
    let journal = c.args.self.now.journal in
    let full : journal.journal < length journal.entries + 1 = lt_of_not-le (λ less. let has =
    c.if-not-has_room.ensures.1 (omega (arith, less)) in absurd cc) in
    rw c.in-Consumed.is (item_full (laws_of g) journal c.args.self.now.time c.args.self.now.sink
    c.in-Consumed.venue c.in-Consumed.numbered (omega (arith, full)))

pub returns : goal.returns
returns g c =
    rw c.in-Consumed.is (entry_goes (laws_of g) c.args.self.now.journal c.add.new.self
    c.args.self.now.time c.args.self.now.sink c.take.new.self c.tell_bests.new.sink
    (item_taken c.in-Consumed.venue c.in-Consumed.numbered)
    (told_item c.in-Consumed.venue c.in-Consumed.numbered)
    (Consumed c.in-Consumed.venue c.in-Consumed.numbered)
    (notices_from c.latest.result.first c.latest.result.changes.now)
    (c.has_room.ensures.0 c.if-not-has_room.false)
    (rw c.in-Consumed.is at c.add.ensures.goes_on) refl refl
    c.latest.ensures.notices
    c.in_ok-take.ensures.took c.in_ok-tell_bests.ensures.took)

pub returns-in_err-take : goal.returns-in_err-take
returns-in_err-take g c =
    let p = err_from_is_err_and c.from_residual.result c.from_residual.ensures.1 in
    rw (p.1, p.2, c.in-Consumed.is)
    (entry_fails_first (laws_of g) c.args.self.now.journal c.add.new.self c.args.self.now.time
    c.args.self.now.sink c.take.new.self
    (item_taken c.in-Consumed.venue c.in-Consumed.numbered)
    (told_item c.in-Consumed.venue c.in-Consumed.numbered)
    (Consumed c.in-Consumed.venue c.in-Consumed.numbered)
    (c.has_room.ensures.0 c.if-not-has_room.false)
    (rw c.in-Consumed.is at c.add.ensures.goes_on) refl refl
    c.in_err-take.ensures.failed)

pub returns-in_err-tell_bests : goal.returns-in_err-tell_bests
returns-in_err-tell_bests g c =
    let p = err_from_is_err_and c.from_residual-in_err-tell_bests.result
    c.from_residual-in_err-tell_bests.ensures.1 in
    rw (p.1, p.2, c.in-Consumed.is)
    (entry_fails_later (laws_of g) c.args.self.now.journal c.add.new.self c.args.self.now.time
    c.args.self.now.sink c.take.new.self c.tell_bests.new.sink
    (item_taken c.in-Consumed.venue c.in-Consumed.numbered)
    (told_item c.in-Consumed.venue c.in-Consumed.numbered)
    (Consumed c.in-Consumed.venue c.in-Consumed.numbered)
    (notices_from c.latest.result.first c.latest.result.changes.now)
    (c.has_room.ensures.0 c.if-not-has_room.false)
    (rw c.in-Consumed.is at c.add.ensures.goes_on) refl refl
    c.latest.ensures.notices
    c.in_ok-take.ensures.took c.in_err-tell_bests.ensures.failed)
