use Rattle.std.proofs.lemmas.Result.{err_from_is_err_and}
use Rattle.feed_text.specs.ReplayStates.{state_of_replay}
use Rattle.event_sinks.specs.SinkEvents.{told_by}
use Rattle.feed_text.proofs.Tales.{plain_goes, plain_fails}
use Rattle.feed_text.proofs.replay_sink.ReplaySink.tell.Goals as goal

pub returns : goal.returns
returns g c = λ h same own. plain_goes (state_of_replay c.args.self.now) h
    (told_by c.args.event.now) c.take.new.self same own c.in_ok-take.ensures.took

pub returns-in_err-take : goal.returns-in_err-take
returns-in_err-take g c = λ h same own.
    let p = err_from_is_err_and c.from_residual.result c.from_residual.ensures.1 in
    rw (p.1, p.2) (plain_fails (state_of_replay c.args.self.now) h (told_by c.args.event.now)
    c.take.new.self same own c.in_err-take.ensures.failed)
