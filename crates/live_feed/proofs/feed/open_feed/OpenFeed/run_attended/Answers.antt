use Rattle.live_feed.specs.run.Runs.{HasPolled}
use Rattle.live_feed.proofs.RunMoves.{handed_back}
use Rattle.live_feed.proofs.feed.open_feed.OpenFeed.run_attended.Goals as goal

pub returns-clause-subscribers : goal.returns-clause-subscribers
returns-clause-subscribers g c =
    handed_back HasPolled (λ subscriber. subscriber.log) c.args.subscribers.items
    c.rejoin_subscribers-subscribers.result.items c.split_subscribers-logs.result.0.items
    c.run_scoped-ends.result.logs.items c.split_subscribers-logs.ensures.logs
    c.rejoin_subscribers-subscribers.ensures c.run_scoped-ends.ensures.logs
