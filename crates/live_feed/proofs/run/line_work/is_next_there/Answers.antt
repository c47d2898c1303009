use Rattle.std.proofs.Common.{[], rules, ◌∙◌}
use Rattle.live_feed.proofs.RunMoves.{brings_still}
use Rattle.live_feed.proofs.run.line_work.is_next_there.Goals as goal

pub returns-then-await_next-clause-brings : goal.returns-then-await_next-clause-brings
returns-then-await_next-clause-brings g c =
    brings_still g.S.LineSource.brings g.met.S.LineSource.brings_more
    c.args.source.now c.loop.source
    c.await_next.new.self [] c.loop.invariant.3 c.await_next.ensures.brings

pub returns-in-Err-clause-brings : goal.returns-in-Err-clause-brings
returns-in-Err-clause-brings g c =
    let still = brings_still g.S.LineSource.brings g.met.S.LineSource.brings_more in
    still c.args.source.now c.await_next.new.self c.request_due.new.source []
    (still c.args.source.now c.loop.source c.await_next.new.self [] c.loop.invariant.3
    c.await_next.ensures.brings)
    c.request_due.ensures.brings

pub loop-preserved : goal.loop-preserved
loop-preserved g c =
    let i = c.loop.invariant in
    let still = brings_still g.S.LineSource.brings g.met.S.LineSource.brings_more in (
      tt,
      tt,
      c.request_due.ensures.venue ∙ c.await_next.ensures.venue ∙ i.2,
      still c.args.source.now c.await_next.new.self c.request_due.new.source []
          (still c.args.source.now c.loop.source c.await_next.new.self [] i.3
          c.await_next.ensures.brings)
          c.request_due.ensures.brings,
      search rules,
    )
