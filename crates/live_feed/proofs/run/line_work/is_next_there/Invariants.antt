use Rattle.std.proofs.Common.{◌≡◌, []}
use Rattle.live_feed.proofs.run.line_work.is_next_there.Given as goal

abbrev pub invariant-loop : goal.invariant-loop
invariant-loop g l =
    (goal.iterator-loop g).can_next l.iterator' × (goal.iterator-loop g).is_finite l.iterator'
    × (g.S.LineSource.venue_of l.source ≡ g.S.LineSource.venue_of l.fn.source)
    × g.S.LineSource.brings l.fn.source [] l.source
    × (g.S.LineSource.failures l.source ≡ g.S.LineSource.failures l.fn.source)
