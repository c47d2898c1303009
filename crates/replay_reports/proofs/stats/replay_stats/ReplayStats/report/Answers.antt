use Rattle.std.proofs.Common.{◌≤◌, List, length, subst, sym, ap}
use Rattle.replay_reports.specs.declared.stats.venue_stats.VenueStats.{VenueStats}
use Rattle.replay_reports.specs.times.Busiest.{messages_told}
use Rattle.replay_reports.specs.stats.Statistics.{AreVenuesOf}
use Rattle.replay_reports.proofs.stats.replay_stats.ReplayStats.report.Goals as goal

pub returns-clause-report : goal.returns-clause-report
returns-clause-report c = λ window events few are.
    let same = sym c.as_slice.ensures.value in
    record {
      venues = c.in_ok-venue_reports.ensures.right window events
          (subst (λ (vs : List VenueStats). length vs ≤ 16) same few)
          (subst (λ (vs : List VenueStats). AreVenuesOf window events vs) same are.venues)
          are.bests;
      states = ap (λ b. b.states) are.bests;
      second = c.peak.ensures 1000000000 (messages_told events) are.second;
      millisecond = c.peak-2.ensures 1000000 (messages_told events) are.millisecond;
    }
