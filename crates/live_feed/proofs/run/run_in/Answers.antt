use Rattle.std.proofs.Common.{◌≡◌, subst}
use Rattle.live_feed.specs.run.Runs.{HasTaken, LineHasEnded, HasPolled}
use Rattle.live_feed.proofs.RunMoves.{joined, ended_of}
use Rattle.live_feed.proofs.run.run_in.Goals as goal

pub returns-clause-lines : goal.returns-clause-lines
returns-clause-lines g c =
    let takes = HasTaken g.G.Genuine g.N.FeedName.lanes in
    let brings = g.S.LineSource.brings in
    let failures = g.S.LineSource.failures in
    joined
    (λ line handle. (handle.promise.seat.value ≡ line.seat)
    × (handle.promise.source.value ≡ line.source))
    (λ line. LineHasEnded takes brings failures line.seat line.source)
    (λ handle. LineHasEnded takes brings failures handle.promise.seat.value
    handle.promise.source.value)
    (λ line handle ended made kept. ended_of takes brings failures
    handle.promise.seat.value line.seat
    handle.promise.source.value line.source ended made.0 made.1 kept)
    c.args.parts.lines.lines.items c.start_lines-line_threads.result.items
    c.join_each-ends.result.items
    c.start_lines-line_threads.ensures.threads c.join_each-ends.ensures.ends

pub returns-clause-logs : goal.returns-clause-logs
returns-clause-logs g c =
    joined
    (λ log handle. handle.promise.log.value ≡ log)
    HasPolled
    (λ handle. HasPolled handle.promise.log.value)
    (λ log handle back made kept. subst (λ given. HasPolled given back) made kept)
    c.args.parts.logs.logs.items c.start_subscribers-log_threads.result.items
    c.join_each-logs.result.items
    c.start_subscribers-log_threads.ensures.threads c.join_each-logs.ensures.ends
