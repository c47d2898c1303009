use Rattle.replay_run.proofs.Prints.{replays_run}
use Rattle.replay_run.proofs.replay.Goals as goal

pub returns-clause-headline : goal.returns-clause-headline
returns-clause-headline g c =
    replays_run _ _ (record { takes = g.K.EventSink.takes; fails = g.K.EventSink.fails })
    g.K.EventSink.is_shown c.args.config.now
    c.args.reader.now c.replay_events.new.reader c.args.format.now c.replay_events.new.format
    c.args.sink c.replay_events.result.sink c.replay_events.result.outcome
    c.replay_events.ensures.replays
