use Rattle.std.proofs.Common.{arith}
use Rattle.itch_book.proofs.BestLaws.{rank_bid, rank_offer}
use Rattle.itch_book.proofs.laws.ranks_follow_prices.Goals as goal

pub returns-clause-bids : goal.returns-clause-bids
returns-clause-bids c place price other = (
  λ h. omega (arith, h, rank_bid place price, rank_bid place other),
  λ h. omega (arith, h, rank_bid place price, rank_bid place other),
)

pub returns-clause-offers : goal.returns-clause-offers
returns-clause-offers c place price other p o = (
  λ h. omega (arith, h, p, o, rank_offer place price, rank_offer place other),
  λ h. omega (arith, h, p, o, rank_offer place price, rank_offer place other),
)
