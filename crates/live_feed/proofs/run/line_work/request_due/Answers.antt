use Rattle.std.proofs.Common.{[]}
use Rattle.live_feed.proofs.RunMoves.{brings_still}
use Rattle.live_feed.proofs.run.line_work.request_due.Goals as goal

pub returns-in-Ok-Some-clause-brings : goal.returns-in-Ok-Some-clause-brings
returns-in-Ok-Some-clause-brings g c =
    brings_still g.S.LineSource.brings g.met.S.LineSource.brings_more c.args.source.now
    c.now_ms-now_ms.new.self c.request.new.self [] c.now_ms-now_ms.ensures.brings
    c.request.ensures.brings
