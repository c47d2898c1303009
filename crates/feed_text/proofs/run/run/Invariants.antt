use Rattle.std.proofs.Common.{◌≡◌, ◌+◌, ◌*◌, ◌-◌, ◌≤◌, length}
use Rattle.feed_text.specs.EventReplays.{venues_in}
use Rattle.feed_text.specs.ReplayStates.{state_of_replay}
use Rattle.feed_text.proofs.Runs.{Ran}
use Rattle.feed_text.proofs.run.run.Given as goal

abbrev pub invariant-pieces : goal.invariant-pieces
invariant-pieces g l = record {
  ran : Ran (record {
    gives = g.R.CaptureIn.gives;
    ends = g.R.CaptureIn.ends;
    failures =
        g.R.CaptureIn.failures;
    fails = g.R.CaptureIn.fails;
  })
      (record {
        reads = g.F.RecordFormat.reads;
        wants = g.F.RecordFormat.wants;
        is_bad =
            g.F.RecordFormat.is_bad;
        is_whole = g.F.RecordFormat.is_whole;
      })
      (record { takes = g.K.EventSink.takes; fails = g.K.EventSink.fails })
      l.config l.fn.reader (l.config.turns - l.turns) l.reader l.fn.format l.format l.unread
      l.fn.output.sink l.venues l.kept (state_of_replay l.output);
  turns : l.turns ≤ l.config.turns;
  room : length l.unread ≤ 1179648;
  reads : g.R.CaptureIn.failures l.reader ≡ g.R.CaptureIn.failures l.fn.reader;
  of_venues : g.F.RecordFormat.venues l.format ≡ venues_in l.config;
}

abbrev pub decreases-pieces : goal.decreases-pieces
decreases-pieces g l = l.turns * 1179649 + length l.unread
