-- What is held of how a venue's packets run in time.
use Rattle.std.specs.Prelude.{◌≡◌, ℕ, List}
use Rattle.feed_types.specs.declared.line.LineId.TheVariants.{A, B}
use Rattle.event_sinks.specs.SinkEvents.{TimedEvent}
use Rattle.replay_reports.specs.declared.times.venue_times.VenueTimes.{VenueTimes}
use Rattle.replay_reports.specs.times.Leads.{AreLeadsOf}
use Rattle.replay_reports.specs.times.Timing.{came_of, last_packets, leads_before}

-- after these events of the venue, the last one first
pub record IsVenueTimed (window : ℕ) (own : List TimedEvent) (t : VenueTimes) : Type 0 where
  pub leads : AreLeadsOf window (came_of own) (leads_before window A B own)
      (leads_before window B A own) t.leads
  pub last : t.last_packets ≡ last_packets own
