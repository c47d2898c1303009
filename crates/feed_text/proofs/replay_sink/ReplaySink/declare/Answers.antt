use Rattle.std.proofs.Common.{◌∷◌, [], Some, None, sym, subst}
use Rattle.std.proofs.lemmas.Result.{err_from_is_err_and}
use Rattle.feed_types.specs.declared.journal.Entry.TheVariants.{SelfHelp}
use Rattle.journal_book.specs.Changes.{notices_from}
use Rattle.journal_book.specs.NumberedBooks.{NumberedState}
use Rattle.feed_text.specs.ReplayEvents.{self_help_declared}
use Rattle.event_sinks.specs.SinkEvents.{told_declaration}
use Rattle.feed_text.specs.ReplayStates.{GoesToFull, FailsWithin, state_of_replay}
use Rattle.feed_text.proofs.Tales.{SinkLaws, laws_by, tale_from, entry_goes, entry_fails_first, entry_fails_later, declared_own, already_own, declared_full, plain_fails}
use Rattle.feed_text.proofs.replay_sink.ReplaySink.declare.Given.{Over}
use Rattle.feed_text.proofs.replay_sink.ReplaySink.declare.Goals as goal

laws_of : (g : Over)
    → SinkLaws (record { takes = g.K.EventSink.takes; fails = g.K.EventSink.fails })
laws_of g = laws_by g.met.K.EventSink.takes_none g.met.K.EventSink.takes_more
    g.met.K.EventSink.fails_after g.met.K.EventSink.fails_longer

pub returns-in_ok-tell_bests-in-Ok : goal.returns-in_ok-tell_bests-in-Ok
returns-in_ok-tell_bests-in-Ok g c =
    let e = c.in-Ok.ensures in
    let own = declared_own c.args.self.now.journal c.declare.new.self c.args.venue c.args.on
    c.in-Ok.position e.1 e.3.0 e.3.1 in
    entry_goes (laws_of g) c.args.self.now.journal c.declare.new.self c.args.self.now.time
    c.args.self.now.sink c.take.new.self c.tell_bests.new.sink
    (self_help_declared c.args.venue c.args.on) (told_declaration c.args.venue c.args.on
    (Some c.in-Ok.position)) (SelfHelp c.args.venue c.args.on)
    (notices_from c.latest.result.first c.latest.result.changes.now)
    e.2 e.3.0 own.0 own.1 c.latest.ensures.notices
    c.in_ok-take-in-Ok.ensures.took c.in_ok-tell_bests-in-Ok.ensures.took

pub returns-in_err-take-in-Ok : goal.returns-in_err-take-in-Ok
returns-in_err-take-in-Ok g c =
    let p = err_from_is_err_and c.from_residual.result c.from_residual.ensures.1 in
    let e = c.in-Ok.ensures in
    let own = declared_own c.args.self.now.journal c.declare.new.self c.args.venue c.args.on
    c.in-Ok.position e.1 e.3.0 e.3.1 in
    rw (p.1, p.2)
    (entry_fails_first (laws_of g) c.args.self.now.journal c.declare.new.self c.args.self.now.time
    c.args.self.now.sink c.take.new.self
    (self_help_declared c.args.venue c.args.on) (told_declaration c.args.venue c.args.on
    (Some c.in-Ok.position)) (SelfHelp c.args.venue c.args.on)
    e.2 e.3.0 own.0 own.1 c.in_err-take-in-Ok.ensures.failed)

pub returns-in_err-tell_bests-in-Ok : goal.returns-in_err-tell_bests-in-Ok
returns-in_err-tell_bests-in-Ok g c =
    let p = err_from_is_err_and c.from_residual-in_err-tell_bests-in-Ok.result
    c.from_residual-in_err-tell_bests-in-Ok.ensures.1 in
    let e = c.in-Ok.ensures in
    let own = declared_own c.args.self.now.journal c.declare.new.self c.args.venue c.args.on
    c.in-Ok.position e.1 e.3.0 e.3.1 in
    rw (p.1, p.2)
    (entry_fails_later (laws_of g) c.args.self.now.journal c.declare.new.self c.args.self.now.time
    c.args.self.now.sink c.take.new.self c.tell_bests.new.sink
    (self_help_declared c.args.venue c.args.on) (told_declaration c.args.venue c.args.on
    (Some c.in-Ok.position)) (SelfHelp c.args.venue c.args.on)
    (notices_from c.latest.result.first c.latest.result.changes.now)
    e.2 e.3.0 own.0 own.1 c.latest.ensures.notices
    c.in_ok-take-in-Ok.ensures.took c.in_err-tell_bests-in-Ok.ensures.failed)

pub returns-in_err-take-in-Err-AlreadySo : goal.returns-in_err-take-in-Err-AlreadySo
returns-in_err-take-in-Err-AlreadySo g c =
    let p = err_from_is_err_and c.from_residual-in_err-take-in-Err-AlreadySo.result
    c.from_residual-in_err-take-in-Err-AlreadySo.ensures.1 in
    let e = rw c.in-Err-AlreadySo.field-0-is at c.in-Err-AlreadySo.ensures in
    let own = already_own c.args.self.now.journal c.args.venue c.args.on e.1 in
    rw (p.1, p.2)
    (subst (λ (j : NumberedState). FailsWithin (record {
      takes = g.K.EventSink.takes;
      fails =
          g.K.EventSink.fails;
    }) (state_of_replay c.args.self.now) (self_help_declared c.args.venue
    c.args.on ∷ []) (tale_from j c.args.self.now.time c.take-in-Err-AlreadySo.new.self))
    (sym e.2)
    (plain_fails (state_of_replay c.args.self.now) (self_help_declared c.args.venue c.args.on)
    (told_declaration c.args.venue c.args.on None) c.take-in-Err-AlreadySo.new.self own.1 own.0
    c.in_err-take-in-Err-AlreadySo.ensures.failed))

pub returns-in-Err-JournalFull : goal.returns-in-Err-JournalFull
returns-in-Err-JournalFull g c =
    let e = rw c.in-Err-JournalFull.field-0-is at c.in-Err-JournalFull.ensures in
    subst (λ (j : NumberedState). GoesToFull (record {
      takes = g.K.EventSink.takes;
      fails =
          g.K.EventSink.fails;
    }) (state_of_replay c.args.self.now) (self_help_declared c.args.venue
    c.args.on ∷ []) (tale_from j c.args.self.now.time c.args.self.now.sink)) (sym e.3)
    (declared_full (laws_of g) c.args.self.now.journal c.args.self.now.time c.args.self.now.sink
    c.args.venue c.args.on e.1 e.2)
