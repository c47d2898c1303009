use Rattle.std.proofs.Common.{◌≡◌, ℕ, List, None, length}
use Rattle.line_arbiter.specs.Counts.{shown}
use Rattle.live_feed.specs.run.Runs.{HasTaken}
use Rattle.live_feed.proofs.run.line_work.work_line.Given as goal

abbrev pub invariant-loop : goal.invariant-loop
invariant-loop g l =
    (goal.iterator-loop g).can_next l.iterator' × (goal.iterator-loop g).is_finite l.iterator'
    × (g.S.LineSource.venue_of l.source ≡ l.seat.venue)
    × (l.seat.venue ≡ l.fn.line.seat.venue) × (l.seat.line ≡ l.fn.line.seat.line)
    × ((brought : List (List ℕ)) × HasTaken g.G.Genuine
    g.N.FeedName.lanes l.fn.line.seat brought l.seat
    × g.S.LineSource.brings l.fn.line.source brought l.source
    × (l.datagrams ≡ shown (length brought)))
    × (g.S.LineSource.failures l.source ≡ g.S.LineSource.failures l.fn.line.source)
    × (l.fault ≡ None)
