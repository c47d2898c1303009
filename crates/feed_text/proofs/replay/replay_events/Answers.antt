use Rattle.feed_text.proofs.Tales.{SinkLaws, laws_by}
use Rattle.feed_text.proofs.RunEnds.{closed_by}
use Rattle.feed_text.proofs.replay.replay_events.Given.{Over}
use Rattle.feed_text.proofs.replay.replay_events.Goals.{in-Ok-run, in-Err}
use Rattle.feed_text.proofs.replay.replay_events.Goals as goal

laws_of : (g : Over)
    → SinkLaws (record { takes = g.K.EventSink.takes; fails = g.K.EventSink.fails })
laws_of g = laws_by g.met.K.EventSink.takes_none g.met.K.EventSink.takes_more
    g.met.K.EventSink.fails_after g.met.K.EventSink.fails_longer

pub returns-clause-replays : goal.returns-clause-replays
returns-clause-replays g c = elim c.match-run.branch [
  | in-Ok-run w ↦ rw (w.output-is, w.outcome-is)
      (closed_by (laws_of g) c.args.config.now c.run.new.venues w.close-outcome.new.sink
      g.K.EventSink.is_shown w.close-outcome.result w.in-Ok-run.ensures
      w.close-outcome.ensures.closes)
  | in-Err w ↦ rw (w.output-is, w.outcome-is) w.in-Err.ensures
]
