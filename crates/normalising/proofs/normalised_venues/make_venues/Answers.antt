use Rattle.std.proofs.Common.{arith, refl, sym, subst}
use Rattle.normalising.specs.Keeping.{FollowNew, FollowsNew}
use Rattle.normalising.proofs.Venues.{follow_next}
use Rattle.normalising.proofs.normalised_venues.make_venues.Goals as goal

pub loop-place-preserved : goal.loop-place-preserved
loop-place-preserved c =
    let feed = c.args.settings.now in
    record {
      follow = subst (λ vs. FollowNew feed vs) (sym c.in-Ok.ensures.items)
          (follow_next feed c.loop-place.venues.items c.in_ok-venue.venue
          c.loop-place.invariant.follow
          (subst (λ n. FollowsNew feed n c.in_ok-venue.venue)
          (sym c.loop-place.invariant.count) (c.in_ok-venue.ensures.made refl)));
      count = omega (arith, c.in-Ok.ensures.len, c.loop-place.invariant.count);
    }
