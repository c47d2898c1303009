use Rattle.std.proofs.Common.{◌≡◌, ◌+◌, ◌<◌, ◌∷◌, [], ℕ, List, Some, inl, inr, ap, arith, length, length-append, refl, subst, sym, ◌∙◌}
use Rattle.std.specs.Prelude.{slice_get}
use Rattle.std.proofs.lemmas.Option.{slice_get_read}
use Rattle.replay_reports.specs.declared.report.venue_report.VenueReport.{VenueReport}
use Rattle.replay_reports.specs.report.Reports.{IsVenueReport}
use Rattle.replay_reports.specs.stats.Statistics.{events_at}
use Rattle.replay_reports.proofs.Statistics.{bids_at, got_pushed, offers_at}
use Rattle.replay_reports.proofs.stats.replay_stats.venue_reports.Goals as goal

pub loop-place-preserved : goal.loop-place-preserved
loop-place-preserved c =
    let old = c.loop-place.reports.items in
    let new = c.report.result in
    let at = c.loop-place.place in
    let is = c.in_ok-push.ensures.items in
    let v = c.index-venues-place.result in
    record {
      count = ap length is ∙ length-append old (new ∷ [])
          ∙ ap (λ (n : ℕ). n + 1) c.loop-place.invariant.count;
      reports = λ window events few stats bests place r got.
          elim (got_pushed old new r place
          (subst (λ (rs : List VenueReport). slice_get rs place ≡ Some r) is got)) [
            | inl before ↦
                c.loop-place.invariant.reports window events few stats bests place r before
            | inr last ↦
                let within : at < 16 = omega (arith, few, c.loop-place-test.true) in
                subst (λ (k : ℕ). IsVenueReport window k events r)
                (sym (last.1 ∙ c.loop-place.invariant.count))
                (subst (λ (u : VenueReport). IsVenueReport window at events u) last.0
                (record {
                  own = c.report.ensures.own window (events_at at events) (stats at v
                      (slice_get_read c.args.venues.now (length c.args.venues.now) at v
                      refl c.loop-place-test.true c.index-venues-place.is));
                  bids = c.report.ensures.bids ∙ c.led_by-bids.ensures within
                      ∙ bids_at c.args.bests.now events at within bests;
                  offers = c.report.ensures.offers ∙ c.led_by-offers.ensures within
                      ∙ offers_at c.args.bests.now events at within bests;
                }))
          ];
    }
