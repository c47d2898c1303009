use Rattle.std.proofs.Common.{ℕ, List, subst, sym}
use Rattle.live_feed.specs.subscriber.Logs.{SubscriberLogState}
use Rattle.udp_listening.specs.SettledNotices.{HasNoted}
use Rattle.udp_listening.specs.declared.row_follower.RowFollower.{RowFollower}
use Rattle.udp_listening.proofs.row_follower.RowFollower.follow_run.Goals.{in-None, in-Some+then-not-turn}
use Rattle.udp_listening.proofs.row_follower.RowFollower.follow_run.Goals as goal

pub loop-init : goal.loop-init
loop-init g c = (tt, tt, λ style first h. h, λ symbols h. h)

pub loop-preserved : goal.loop-preserved
loop-preserved g c = (
  tt,
  tt,
  λ style first h. c.turn.ensures.shows style first (c.loop.invariant.2 style first h),
  λ symbols h. c.turn.ensures.notes symbols (c.loop.invariant.3 symbols h),
)

-- the follower has noted what this log has forgotten, of these symbols
abbrev Notes : {C W : Type 0} → List (List ℕ) → SubscriberLogState → RowFollower C W → Type 0
Notes symbols log follower = HasNoted symbols log.lines log.forgotten follower.console.unchanged

pub returns-clause-notes : goal.returns-clause-notes
returns-clause-notes g c = λ symbols noted.
    let log = c.match-next.log in
    elim c.match-next.branch [
      | in-None w ↦
          subst (λ f. Notes symbols log f) (sym w.follower-is)
          (subst (λ l. Notes symbols l c.loop.follower) (sym w.log-is)
          (c.loop.invariant.3 symbols noted))
      | in-Some+then-not-turn w ↦
          subst (λ f. Notes symbols log f) (sym w.follower-is)
          (subst (λ l. Notes symbols l w.turn.new.self) (sym w.log-is)
          (w.turn.ensures.notes symbols (c.loop.invariant.3 symbols noted)))
    ]
