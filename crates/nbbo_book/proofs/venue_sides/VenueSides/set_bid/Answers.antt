use Rattle.std.proofs.Common.{ℕ, ◌∙◌, ap, refl, get_or}
use Rattle.feed_types.specs.declared.line.Side.TheVariants.{Bid}
use Rattle.nbbo_book.specs.declared.venue_sides.SidePair.{SidePair}
use Rattle.nbbo_book.specs.declared.venue_sides.VenueSides.{VenueSides}
use Rattle.nbbo_book.specs.VenueSides.{with_side}
use Rattle.nbbo_book.specs.SidePairs.{sides_of_pairs}
use Rattle.nbbo_book.proofs.SetSides.{bid_set}
use Rattle.nbbo_book.proofs.venue_sides.VenueSides.set_bid.Goals as goal

pub returns : goal.returns
returns c =
    let d : SidePair = c.index-self-index.result in
    let was : SidePair = get_or c.self.inside.pairs c.index.result d in
    bid_set c.self.inside.pairs c.index.result d
    (record { bid = c.args.bid; offer = was.offer; apart = was.apart }) refl
    ∙ ap (λ (n : ℕ). with_side Bid n c.args.bid (sides_of_pairs c.self.inside.pairs))
    c.index.ensures.value
    ∙ ap (λ (t : VenueSides). with_side Bid c.args.venue c.args.bid t) c.self.view_is
