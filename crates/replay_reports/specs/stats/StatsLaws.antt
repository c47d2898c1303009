-- The laws of a sink of statistics.
use Rattle.std.proofs.Common.{List, [], ◌++◌, append_assoc, refl, reverse, sym, ap, subst, ◌∙◌}
use Rattle.std.proofs.lemmas.List.{reverse-append}
use Rattle.event_sinks.specs.SinkEvents.{TimedEvent}
use Rattle.replay_reports.specs.declared.stats.replay_stats.ReplayStats.{ReplayStats}
use Rattle.replay_reports.specs.stats.Statistics.{AreStatsOf}
use Rattle.replay_reports.specs.stats.StatsSinks.{TakesStats}

pub takes_no_stats : (s : ReplayStats) → TakesStats s [] s
takes_no_stats s = record {
  same_times = refl;
  same_venues = refl;
  stats = λ window earlier are. are;
}

pub takes_more_stats : (s t u : ReplayStats) (xs ys : List TimedEvent)
    → TakesStats s xs t → TakesStats t ys u → TakesStats s (xs ++ ys) u
takes_more_stats s t u xs ys first second = record {
  same_times = second.same_times ∙ first.same_times;
  same_venues = second.same_venues ∙ first.same_venues;
  stats = λ window earlier are.
      subst (λ (events : List TimedEvent). AreStatsOf window events u)
      (sym (append_assoc (reverse ys) (reverse xs) earlier)
      ∙ ap (λ (events : List TimedEvent). events ++ earlier) (sym (reverse-append xs ys)))
      (second.stats window (reverse xs ++ earlier) (first.stats window earlier are));
}
