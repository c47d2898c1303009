use Rattle.std.proofs.Common.{◌≡◌, ◌∙◌, length, map, sym}
use Rattle.std.proofs.lemmas.List.{length-map}
use Rattle.venue_lines.specs.Seats.{new_seat}
use Rattle.live_feed.specs.run.Runs.{HasPolled, HasTaken, LineHasEnded}
use Rattle.live_feed.proofs.RunMoves.{ended_of}
use Rattle.live_feed.proofs.WholeRuns.{at_ok, both_ok, pairwise_length, pairwise_two, so_at_ok}
use Rattle.live_feed.proofs.feed.LiveFeed.run_whole.Goals as goal

pub returns-clause-whole : goal.returns-clause-whole
returns-clause-whole g c =
    let takes = HasTaken g.G.Genuine g.N.FeedName.lanes in
    let source = g.S.LineSource in
    let begun = c.in-Ok-begin.begun in
    let ran = c.run_attended-ran in
    let report = c.in-Ok-ran.report in
    let lines =
    pairwise_two
    (λ task line. (line.seat ≡ new_seat (source.venue_of task.source) task.line)
    × (line.source ≡ task.source))
    (λ line. LineHasEnded takes source.brings source.failures line.seat line.source)
    (λ task. LineHasEnded takes source.brings source.failures
    (new_seat (source.venue_of task.source) task.line) task.source)
    (λ task line ended given so.
    ended_of takes source.brings source.failures line.seat
    (new_seat (source.venue_of task.source) task.line) line.source task.source
    ended given.0 given.1 so)
    c.args.task.lines.items begun.0.items report.lines.items c.in-Ok-begin.ensures.lines
    (at_ok _ ran.result.0 report c.in-Ok-ran.is ran.ensures.lines) in
    let polled =
    pairwise_length (λ given back. HasPolled given.log back.log) begun.2.items
    report.subscribers.items
    (at_ok _ ran.result.0 report c.in-Ok-ran.is ran.ensures.subscribers) in
    let logs = map (λ s. s.log) report.subscribers.items in
    both_ok (λ whole reported settled. record {
      ends = report.lines.items;
      lines = lines;
      reported = reported;
      log = begun.1;
      begun = c.in-Ok-begin.ensures.log;
      later = ran.result.1.log;
      attended = so_at_ok ran.result.0 report c.in-Ok-ran.is ran.ensures.attended;
      others = logs;
      all = length-map report.subscribers.items (λ s. s.log) ∙ sym polled
          ∙ c.in-Ok-begin.ensures.count;
      settled = settled;
    }) c.settled.result c.settled.ensures.lines c.settled.ensures.settled
