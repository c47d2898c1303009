use Rattle.text_out.specs.Members.{writing_of}
use Rattle.udp_listening.specs.Listening.{KeepsFollowing, KeepsNoting}
use Rattle.udp_listening.proofs.row_follower.RowFollower.follow_run.Given as goal

abbrev pub invariant-loop : goal.invariant-loop
invariant-loop g l =
    (goal.iterator-loop g).can_next l.iterator' × (goal.iterator-loop g).is_finite l.iterator'
    × KeepsFollowing (writing_of g.W.TextOut)
    l.initial.log l.initial.follower.console l.log l.follower.console
    × KeepsNoting l.initial.log l.initial.follower.console l.log l.follower.console
