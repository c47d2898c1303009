use Rattle.std.proofs.Common.{◌≡◌}
use Rattle.feed_text.specs.Following.{FollowAll}
use Rattle.capture_records.specs.Formats.{TimedRecord}
use Rattle.feed_text.specs.PuttingIn.{StandsFor, left_in}
use Rattle.feed_text.specs.ReplayStates.{state_of_replay}
use Rattle.feed_text.specs.Rules.{ReplayPoint}
use Rattle.feed_text.specs.Running.{KeepsVenues}
use Rattle.feed_text.specs.Standings.{Knows}
use Rattle.feed_text.proofs.Taking.{TookSoFar}
use Rattle.feed_text.proofs.put_in.put_in_all.Given as goal

abbrev pub invariant-loop : goal.invariant-loop
invariant-loop g l = record {
  kept : KeepsVenues l.fn.venues l.venues;
  journal : l.output.journal.venues ≡ l.fn.output.journal.venues;
  taken : (r : TimedRecord) (at : ReplayPoint) → StandsFor l.coming r
      → FollowAll l.config.window l.fn.venues.items at.histories
      → Knows l.config l.fn.kept at
      → TookSoFar (record { takes = g.K.EventSink.takes; fails = g.K.EventSink.fails }) l.config r
      at (state_of_replay l.fn.output) (state_of_replay l.output) l.venues.items l.kept;
}

abbrev pub decreases-loop : goal.decreases-loop
decreases-loop g l = left_in l.venues.items
