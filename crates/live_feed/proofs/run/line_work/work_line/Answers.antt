use Rattle.std.proofs.Common.{[], ◌∷◌, ◌++◌, None, Some, ap, rules, Ok, subst, ◌∙◌}
use Rattle.venue_lines.specs.Sources.{brought_in, failures_after}
use Rattle.venue_lines.specs.Datagrams.{bytes_of}
use Rattle.live_feed.specs.run.Runs.{HasTaken}
use Rattle.live_feed.proofs.RunMoves.{brings_still, genuine_at, line_ended, read_more, seat_stays, taken_more}
use Rattle.live_feed.proofs.run.line_work.work_line.Goals as goal
use Rattle.live_feed.proofs.run.line_work.work_line.Goals.{in-None, in-Some+in-Ok-false, in-Some+in-Err, in-Some+in-Ok-true+in-Ok-None, in-Some+in-Ok-true+in-Err-next, in-Some+in-Ok-true+in-Ok-Some+in-Err-request_due}

pub take_datagram-answer-requires : goal.take_datagram-answer-requires
take_datagram-answer-requires g c =
    let datagram = c.in-Ok-Some.datagram in
    genuine_at g.G.Genuine
    (g.S.LineSource.venue_of c.is_next_there.new.source) c.loop.seat.venue (bytes_of datagram)
    (c.is_next_there.ensures.venue ∙ c.loop.invariant.2) (c.in-Ok-Some.ensures.genuine datagram
    (ap (λ found. Ok found) c.in-Ok-Some.field-0-is))

pub loop-preserved : goal.loop-preserved
loop-preserved g c =
    let laws = g.met.S.LineSource in
    let still = brings_still g.S.LineSource.brings laws.brings_more in
    let first = c.args.line.source in
    let waited = c.is_next_there.new.source in
    let so_far = c.loop.invariant.5 in
    let bytes = bytes_of c.in-Ok-Some.datagram in
    let took =
    taken_more g.G.Genuine g.N.FeedName.lanes
    so_far.0 bytes c.take_datagram-answer.result c.args.line.seat c.loop.seat
    c.take_datagram-answer.new.seat so_far.1 c.take_datagram-answer.ensures.taken in
    let one = subst (λ found. g.S.LineSource.brings waited (brought_in (Ok found))
    c.next-in-loop.new.self) c.in-Ok-Some.field-0-is c.in-Ok-Some.ensures.brings in
    let waits = still first c.loop.source waited so_far.0 so_far.2 c.is_next_there.ensures.brings in
    let read = laws.brings_more first waited c.next-in-loop.new.self so_far.0 (bytes ∷ []) waits one
    in
    let back = still first c.next-in-loop.new.self c.recycle.new.self (so_far.0 ++ bytes ∷ []) read
    c.recycle.ensures.brings in (
      tt,
      tt,
      search rules,
      search rules,
      search rules,
      (
        so_far.0 ++ bytes ∷ [],
        took,
        still first c.recycle.new.self c.request_due.new.source (so_far.0 ++ bytes ∷ []) back
            c.request_due.ensures.brings,
        read_more so_far.0 bytes c.loop.datagrams _ so_far.3 c.saturating_add-datagrams.ensures,
      ),
      search rules,
      search rules,
    )

pub returns : goal.returns
returns g c =
    let laws = g.met.S.LineSource in
    let brings = g.S.LineSource.brings in
    let takes = HasTaken g.G.Genuine g.N.FeedName.lanes in
    let ended = line_ended takes brings g.S.LineSource.failures laws.brings_more c.args.line.seat in
    let still = brings_still brings laws.brings_more in
    let first = c.args.line.source in
    let i = c.loop.invariant in
    let so_far = i.5 in
    let old = c.loop.seat in
    let before = c.loop.source in elim c.match-next.branch [
      | in-None w ↦
          rw w.seat-is (rw w.source-is (rw w.datagrams-is (rw w.fault-is (rw i.7
          (ended old first before before so_far.0 c.loop.datagrams None i.3 i.4
          so_far.3 so_far.1 so_far.2
          (laws.brings_nothing before) i.6)))))
      | in-Some+in-Ok-false w ↦
          rw w.seat-is (rw w.source-is (rw w.datagrams-is (rw w.fault-is (rw i.7
          (ended old first before w.is_next_there.new.source so_far.0 c.loop.datagrams None i.3 i.4
          so_far.3
          so_far.1 so_far.2 w.is_next_there.ensures.brings
          (w.in-Ok-false.ensures.sound ∙ i.6))))))
      | in-Some+in-Err w ↦
          rw w.seat-is (rw w.source-is (rw w.datagrams-is (rw w.fault-is
          (ended old first before w.is_next_there.new.source so_far.0 c.loop.datagrams
          (Some w.in-Err.failed) i.3 i.4
          so_far.3
          so_far.1 so_far.2 w.is_next_there.ensures.brings
          (w.in-Err.ensures.failed ∙ ap (λ n. failures_after n w.in-Err.failed) i.6)))))
      | in-Some+in-Ok-true+in-Ok-None w ↦
          let waited = w.is_next_there.new.source in
          let waits = still first before waited so_far.0 so_far.2 w.is_next_there.ensures.brings in
          let nothing = subst (λ found. brings waited (brought_in (Ok found))
          w.next-in-loop.new.self)
          w.in-Ok-None.field-0-is w.in-Ok-None.ensures.brings in
          rw w.seat-is (rw w.source-is (rw w.datagrams-is (rw w.fault-is (rw i.7
          (ended old first waited w.next-in-loop.new.self so_far.0 c.loop.datagrams None i.3 i.4
          so_far.3
          so_far.1 waits nothing (w.in-Ok-None.ensures.sound ∙ w.in-Ok-true.ensures.sound
          ∙ i.6))))))
      | in-Some+in-Ok-true+in-Err-next w ↦
          let waited = w.is_next_there.new.source in
          let waits = still first before waited so_far.0 so_far.2 w.is_next_there.ensures.brings in
          rw w.seat-is (rw w.source-is (rw w.datagrams-is (rw w.fault-is
          (ended old first waited w.next-in-loop.new.self so_far.0 c.loop.datagrams
          (Some w.in-Err-next.failed) i.3
          i.4 so_far.3 so_far.1 waits w.in-Err-next.ensures.brings (w.in-Err-next.ensures.failed
          ∙ ap (λ n. failures_after n w.in-Err-next.failed) (w.in-Ok-true.ensures.sound ∙ i.6))))))
      | in-Some+in-Ok-true+in-Ok-Some+in-Err-request_due w ↦
          let waited = w.is_next_there.new.source in
          let waits = still first before waited so_far.0 so_far.2 w.is_next_there.ensures.brings in
          let bytes = bytes_of w.in-Ok-Some.datagram in
          let answer = w.take_datagram-answer in
          let stays = seat_stays g.G.Genuine
          g.N.FeedName.lanes bytes old answer.result answer.new.seat answer.ensures.taken in
          let took = taken_more g.G.Genuine
          g.N.FeedName.lanes so_far.0 bytes answer.result c.args.line.seat old
          answer.new.seat so_far.1
          answer.ensures.taken in
          let one = subst (λ found. brings waited (brought_in (Ok found)) w.next-in-loop.new.self)
          w.in-Ok-Some.field-0-is w.in-Ok-Some.ensures.brings in
          let read = laws.brings_more first waited w.next-in-loop.new.self so_far.0
          (bytes ∷ []) waits one in
          let back = still first w.next-in-loop.new.self w.recycle.new.self
          (so_far.0 ++ bytes ∷ []) read w.recycle.ensures.brings in
          let failed = w.in-Err-request_due in
          rw w.seat-is (rw w.source-is (rw w.datagrams-is (rw w.fault-is
          (ended answer.new.seat first w.recycle.new.self w.request_due.new.source
          (so_far.0 ++ bytes ∷ []) w.saturating_add-datagrams.result
          (Some failed.failed) (stays.0 ∙ i.3)
          (stays.1 ∙ i.4) (read_more so_far.0 bytes c.loop.datagrams _ so_far.3
          w.saturating_add-datagrams.ensures)
          took back w.request_due.ensures.brings (failed.ensures.failed
          ∙ ap (λ n. failures_after n failed.failed)
          (w.recycle.ensures.sound ∙ w.in-Ok-Some.ensures.sound ∙ w.in-Ok-true.ensures.sound
          ∙ i.6))))))
    ]
