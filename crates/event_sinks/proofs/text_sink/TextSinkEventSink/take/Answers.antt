use Rattle.std.proofs.Common.{◌∷◌, []}
use Rattle.std.proofs.lemmas.Result.{err_from_is_err_and}
use Rattle.event_sinks.specs.EventLines.{timed_line}
use Rattle.event_sinks.specs.SinkEvents.{timed_event, told_by}
use Rattle.event_sinks.specs.TextPageLaws.{fails_before_text}
use Rattle.event_sinks.proofs.text_sink.TextSinkEventSink.take.Goals as goal

pub returns-in_err-write_full-clause-failed : goal.returns-in_err-write_full-clause-failed
returns-in_err-write_full-clause-failed g c =
    let p = err_from_is_err_and c.from_residual.result c.from_residual.ensures.1 in
    let failed = fails_before_text timed_line g.W.TextOut.adds g.W.TextOut.failures
    c.args.self.now.page c.write_full.new.self (timed_event c.args._time
    (told_by c.args.event.now) ∷ []) (c.in_err-write_full.ensures.part) in
    rw p.1 failed
