use Rattle.std.proofs.Common.{ℕ, ◌-◌, ◌<◌}
use Rattle.feed_text.specs.Following.{FollowAll}
use Rattle.feed_text.specs.Rules.{IsOverdueAt, ReplayPoint}
use Rattle.feed_text.specs.Standings.{IsStandingKept}
use Rattle.feed_text.proofs.venues.ReplayVenues.overdue.Given as goal

abbrev pub invariant-loop-place : goal.invariant-loop-place
invariant-loop-place l = (window : ℕ) (at : ReplayPoint)
    → FollowAll window l.self.items at.histories → IsStandingKept l.kept at.standing
    → (lower number : ℕ) → lower < l.place
    → IsOverdueAt window l.clock.span l.clock.time at lower number → ⊥

abbrev pub decreases-loop-place : goal.decreases-loop-place
decreases-loop-place l = 16 - l.place
