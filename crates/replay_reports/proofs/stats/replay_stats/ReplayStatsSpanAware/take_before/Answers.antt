use Rattle.std.proofs.Common.{refl}
use Rattle.replay_reports.proofs.stats.replay_stats.ReplayStatsSpanAware.take_before.Goals as goal

pub returns : goal.returns
returns c = record {
  same_times = refl;
  same_venues = c.pass_at.ensures.count;
  stats = λ window earlier are. record {
    venues = c.pass_at.ensures.stats window earlier are.venues;
    bests = are.bests;
    second = are.second;
    millisecond = are.millisecond;
  };
}
