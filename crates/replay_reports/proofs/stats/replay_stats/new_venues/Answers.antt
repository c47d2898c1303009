use Rattle.std.proofs.Common.{◌≡◌, ◌+◌, ◌∷◌, [], ℕ, List, Some, inl, inr, ap, length, length-append, subst, ◌∙◌}
use Rattle.std.specs.Prelude.{slice_get}
use Rattle.replay_reports.specs.declared.stats.venue_stats.VenueStats.{VenueStats}
use Rattle.replay_reports.specs.stats.Statistics.{IsVenueOf}
use Rattle.replay_reports.proofs.Statistics.{got_pushed}
use Rattle.replay_reports.proofs.stats.replay_stats.new_venues.Goals as goal

pub loop-place-preserved : goal.loop-place-preserved
loop-place-preserved c =
    let old = c.loop-place.venues.items in
    let new = c.in_ok-new.field-0 in
    let is = c.in_ok-push.ensures.items in
    record {
      count = ap length is ∙ length-append old (new ∷ [])
          ∙ ap (λ (n : ℕ). n + 1) c.loop-place.invariant.count;
      stats = λ some place v got.
          elim (got_pushed old new v place
          (subst (λ (vs : List VenueStats). slice_get vs place ≡ Some v) is got)) [
            | inl before ↦ c.loop-place.invariant.stats some place v before
            | inr last ↦
                subst (λ (u : VenueStats). IsVenueOf c.args.window [] u) last.0
                (c.in_ok-new.ensures some)
          ];
    }
