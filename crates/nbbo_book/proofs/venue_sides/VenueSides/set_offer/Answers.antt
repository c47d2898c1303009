use Rattle.std.proofs.Common.{ℕ, ◌∙◌, ap, refl, get_or}
use Rattle.feed_types.specs.declared.line.Side.TheVariants.{Offer}
use Rattle.nbbo_book.specs.declared.venue_sides.SidePair.{SidePair}
use Rattle.nbbo_book.specs.declared.venue_sides.VenueSides.{VenueSides}
use Rattle.nbbo_book.specs.VenueSides.{with_side}
use Rattle.nbbo_book.specs.SidePairs.{sides_of_pairs}
use Rattle.nbbo_book.proofs.SetSides.{offer_set}
use Rattle.nbbo_book.proofs.venue_sides.VenueSides.set_offer.Goals as goal

pub returns : goal.returns
returns c =
    let d : SidePair = c.index-self-index.result in
    let was : SidePair = get_or c.self.inside.pairs c.index.result d in
    offer_set c.self.inside.pairs c.index.result d
    (record { bid = was.bid; offer = c.args.offer; apart = was.apart }) refl
    ∙ ap (λ (n : ℕ). with_side Offer n c.args.offer (sides_of_pairs c.self.inside.pairs))
    c.index.ensures.value
    ∙ ap (λ (t : VenueSides). with_side Offer c.args.venue c.args.offer t) c.self.view_is
