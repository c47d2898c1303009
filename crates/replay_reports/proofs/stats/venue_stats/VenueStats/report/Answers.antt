use Rattle.feed_types.specs.declared.line.LineId.TheVariants.{A, B}
use Rattle.replay_reports.specs.times.Timing.{leads_told}
use Rattle.replay_reports.proofs.stats.venue_stats.VenueStats.report.Goals as goal

pub returns-clause-own : goal.returns-clause-own
returns-clause-own c = λ window own is. record {
  counts = is.counts;
  a_first = c.stats.ensures (leads_told window A B own) is.times.leads.a;
  b_first = c.stats-2.ensures (leads_told window B A own) is.times.leads.b;
  last_packets_are = is.times.last;
}
