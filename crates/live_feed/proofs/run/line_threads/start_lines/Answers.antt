use Rattle.std.proofs.Common.{rules}
use Rattle.live_feed.proofs.RunMoves.{pairwise_less}
use Rattle.live_feed.proofs.run.line_threads.start_lines.Goals as goal

pub returns-clause-threads : goal.returns-clause-threads
returns-clause-threads g c =
    pairwise_less _ _ (λ given one made. search rules) _ _ c.made_of_each.ensures.each
