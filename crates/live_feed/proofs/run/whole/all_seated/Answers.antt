use Rattle.std.proofs.Common.{◌≡◌, ◌∷◌, [], ◌++◌, rules}
use Rattle.live_feed.proofs.RunMoves.{pairwise_more}
use Rattle.live_feed.proofs.run.whole.all_seated.Goals as goal

pub loop-task-preserved : goal.loop-task-preserved
loop-task-preserved g c =
    let line = c.in_ok-line.line in
    let pushed : c.push.new.self.items ≡ c.loop-task.lines.items ++ line ∷ [] = search rules in
    let more =
    pairwise_more _ c.loop-task.yielded c.loop-task.lines.items c.in-Some.task line
    c.loop-task.invariant.2 c.in_ok-line.ensures in
    (tt, tt, rw pushed more)
