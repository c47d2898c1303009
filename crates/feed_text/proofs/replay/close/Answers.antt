use Rattle.std.proofs.Common.{List, [], subst, None, append-nil}
use Rattle.std.proofs.lemmas.Result.{err_from_is_err_and}
use Rattle.event_sinks.specs.SinkEvents.{TimedEvent, at_time}
use Rattle.feed_text.specs.Tellings.{lasts_told}
use Rattle.feed_text.proofs.replay.close.Goals as goal

pub returns-in_err-tell_last-clause-closes : goal.returns-in_err-tell_last-clause-closes
returns-in_err-tell_last-clause-closes g c =
    let p = err_from_is_err_and c.from_residual.result c.from_residual.ensures.1 in
    rw (p.1, p.2) (λ window hs f. c.in_err-tell_last.ensures.failed window hs f)

pub returns-in_err-show-clause-closes : goal.returns-in_err-show-clause-closes
returns-in_err-show-clause-closes g c =
    let p = err_from_is_err_and c.from_residual-in_err-show.result
    c.from_residual-in_err-show.ensures.1 in
    rw (p.1, p.2)
    (λ window hs f. subst (λ (l : List TimedEvent). g.K.EventSink.fails c.args.sink.now l
    c.show.new.self) (append-nil (at_time None (lasts_told 0 hs)))
    (g.met.K.EventSink.fails_after _ _ _ (at_time None (lasts_told 0 hs)) []
    (c.in_ok-tell_last.ensures.took window hs f) c.in_err-show.ensures.failed))

pub returns-clause-closes : goal.returns-clause-closes
returns-clause-closes g c = (
  λ window hs f. subst (λ (l : List TimedEvent). g.K.EventSink.takes c.args.sink.now l
      c.show.new.self) (append-nil (at_time None (lasts_told 0 hs)))
      (g.met.K.EventSink.takes_more _ _ _ (at_time None (lasts_told 0 hs)) []
      (c.in_ok-tell_last.ensures.took window hs f) c.in_ok-show.ensures.took),
  c.in_ok-show.ensures.shown,
)
