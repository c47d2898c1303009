use Rattle.nbbo_runs.proofs.WatchedRuns.{leaves_absent, sink_run}
use Rattle.nbbo_runs.proofs.watched_sink.replay_watched.Goals as goal

pub returns-clause-headline : goal.returns-clause-headline
returns-clause-headline g c =
    sink_run _ _ c.args.config.now
    (record { takes = g.K.EventSink.takes; fails = g.K.EventSink.fails }) g.K.EventSink.is_shown
    _ _ _ _ _ _ _ c.replay-watched.ensures.headline

pub returns-clause-absent : goal.returns-clause-absent
returns-clause-absent g c =
    leaves_absent _ _ c.args.config.now
    (record { takes = g.K.EventSink.takes; fails = g.K.EventSink.fails }) g.K.EventSink.is_shown
    _ _ _ _ _ _ _ c.args.missing.now.is_watched c.in-Ok.ensures c.first_ordinals.ensures
    c.replay-watched.ensures.headline
