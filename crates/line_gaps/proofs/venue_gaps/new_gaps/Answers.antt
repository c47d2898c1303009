use Rattle.std.proofs.Common.{◌+◌, ◌∷◌, [], ℕ, List, ap, length, length-append, subst, sym, ◌∙◌}
use Rattle.std.specs.List.{AllByRecursion}
use Rattle.line_arbiter.specs.laws.Arrivals.{all_push}
use Rattle.line_gaps.specs.declared.venue_gaps.VenueGaps.{VenueGaps}
use Rattle.line_gaps.specs.VenueFits.{FitsGaps}
use Rattle.line_gaps.proofs.venue_gaps.new_gaps.Goals as goal

pub loop-place-preserved : goal.loop-place-preserved
loop-place-preserved c =
    let old = c.loop-place.venues.items in
    let one = c.new.result in
    let is = c.in_ok-push.ensures.items in
    let before = c.loop-place.invariant in
    record {
      count_is = ap length is ∙ length-append old (one ∷ [])
          ∙ ap (λ (n : ℕ). n + 1) before.count_is;
      fit = subst (λ (vs : List VenueGaps). AllByRecursion (FitsGaps []) vs) (sym is)
          (all_push (FitsGaps []) old one before.fit c.new.ensures.fits);
    }
