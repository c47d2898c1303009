use Rattle.std.proofs.Common.{rules}
use Rattle.live_feed.proofs.RunMoves.{pairwise_less}
use Rattle.live_feed.proofs.run.threads.join_each.Goals as goal

pub returns-clause-ends : goal.returns-clause-ends
returns-clause-ends g c =
    pairwise_less _ _ (λ given one made. search rules) _ _ c.made_of_each.ensures.each
