use Rattle.std.proofs.Common.{sym, ◌∙◌}
use Rattle.nbbo_runs.proofs.SpanRuns.{run_of_all, run_of_span}
use Rattle.nbbo_runs.proofs.span_replay.replay_in_span.Goals as goal

pub returns-then-not-is_bounded-clause-run : goal.returns-then-not-is_bounded-clause-run
returns-then-not-is_bounded-clause-run g c =
    run_of_all _ _ c.args.config.now.replay c.args.config.now.span
    (record { takes = g.K.EventSink.takes; fails = g.K.EventSink.fails }) g.K.EventSink.is_shown
    _ _ _ _ _ _ _ (sym c.is_bounded.ensures ∙ c.if-not-is_bounded.true)
    c.replay_watched.ensures.headline

pub returns-clause-run : goal.returns-clause-run
returns-clause-run g c =
    run_of_span _ _ c.args.config.now.replay c.args.config.now.span
    (record { takes = g.K.EventSink.takes; fails = g.K.EventSink.fails }) g.K.EventSink.is_shown
    _ _ _ _ _ c.args.sink c.new-sink.result c.replay_watched-replayed.result.sink
    c.new-sink.ensures c.replay_watched-replayed.ensures.headline
