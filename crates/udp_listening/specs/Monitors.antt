-- Who stands beside a run, before and after it.
use Rattle.std.specs.Prelude.{◌≡◌, Option, Some, None}
use Rattle.text_out.specs.Devices.{Writing}
use Rattle.live_feed.specs.subscriber.Logs.{SubscriberLogState}
use Rattle.udp_listening.specs.Listening.{KeepsFollowing, KeepsNoting}
use Rattle.run_watches.specs.RunLines.{watched_run}
use Rattle.run_watches.specs.RunNews.{SaysOfRun}
use Rattle.udp_listening.specs.declared.row_follower.RowFollower.{RowFollower}
use Rattle.udp_listening.specs.declared.run_monitor.RunMonitor.{RunMonitor}

-- The follower of rows has attended a run, with a subscriber's log: it has printed what that has
-- forgotten, and noted the symbols of that. Without a log it has done nothing.
abbrev pub FollowsRows : {C W : Type 0} → Writing W → RowFollower C W → Option SubscriberLogState
    → RowFollower C W → Option SubscriberLogState → Type 0
FollowsRows writing before None after later = (after ≡ before) × (later ≡ None)
FollowsRows writing before (Some log) after None = ⊥
FollowsRows writing before (Some log) after (Some longer) =
    KeepsFollowing writing log before.console longer after.console
    × KeepsNoting log before.console longer after.console

-- The monitor has watched a run: it has said all that is said of it.
abbrev pub HasMonitored : {C E : Type 0} → Writing E → (before after : RunMonitor C E) → Type 0
HasMonitored telling before after =
    SaysOfRun telling (watched_run before.watches) before.errors after.errors
