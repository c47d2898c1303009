use Rattle.std.proofs.Common.{◌≡◌}
use Rattle.venue_lines.specs.Seats.{new_seat}
use Rattle.live_feed.specs.run.Runs.{Pairwise}
use Rattle.live_feed.proofs.run.whole.all_seated.Given as goal

abbrev pub invariant-loop-task : goal.invariant-loop-task
invariant-loop-task g l =
    (goal.iterator-loop-task g).can_next l.task-iterator
    × (goal.iterator-loop-task g).is_finite l.task-iterator
    × Pairwise (λ task line. (line.seat ≡ new_seat (g.S.LineSource.venue_of task.source) task.line)
    × (line.source ≡ task.source)) l.yielded l.lines.items
