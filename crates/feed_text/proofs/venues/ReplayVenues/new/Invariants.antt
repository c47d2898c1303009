use Rattle.std.proofs.Common.{map}
use Rattle.std.specs.Prelude.{take}
use Rattle.line_arbiter.specs.Histories.{new_history}
use Rattle.feed_text.specs.Following.{FollowAll}
use Rattle.feed_text.proofs.venues.ReplayVenues.new.Given as goal

abbrev pub invariant-loop-place : goal.invariant-loop-place
invariant-loop-place l = FollowAll l.window l.venues.items
    (map new_history (take l.place l.sessions))
