-- How a venue's packets run in time, one event more.
use Rattle.std.proofs.Common.{◌≡◌, ℕ, List, ◌∷◌, Ok, Option, Some, refl, sym, ap, subst, ◌∙◌}
use Rattle.feed_types.specs.PerLines.{with_line}
use Rattle.feed_types.specs.declared.line.LineId.{LineId}
use Rattle.feed_types.specs.declared.line.LineId.TheVariants.{A, B, Recovery}
use Rattle.feed_types.specs.declared.per_line.PerLine.{PerLine}
use Rattle.line_arbiter.specs.declared.outcome.Outcome.{Outcome}
use Rattle.event_sinks.specs.SinkEvents.{TimedEvent, timed_event, told_packet}
use Rattle.replay_reports.specs.declared.times.venue_times.VenueTimes.{VenueTimes}
use Rattle.replay_reports.specs.times.Leads.{AreLeadsOf, MessageOn}
use Rattle.replay_reports.specs.times.Timing.{came_after, came_of, last_packets, leads_before}
use Rattle.replay_reports.specs.times.VenueTiming.{IsVenueTimed}

last_with : (venue : ℕ) (line : LineId) (number count bytes t : ℕ) (outcome : Outcome)
    (own : List TimedEvent)
    → with_line line (Some t) (last_packets own)
    ≡ last_packets (timed_event (Some t) (told_packet venue line number count bytes (Ok outcome))
    ∷ own)
last_with venue A number count bytes t outcome own = refl
last_with venue B number count bytes t outcome own = refl
last_with venue Recovery number count bytes t outcome own = refl

pub timed_packet : (window venue : ℕ) (line : LineId) (number count bytes t : ℕ)
    (outcome : Outcome) (own : List TimedEvent) (old new : VenueTimes)
    → ((window venue bytes : ℕ) (came : List MessageOn) (a b : List ℕ)
    → AreLeadsOf window came a b old.leads
    → AreLeadsOf window (came_after (Some t)
    (told_packet venue line number count bytes (Ok outcome)) came) a b new.leads)
    → new.last_packets ≡ with_line line (Some t) old.last_packets
    → IsVenueTimed window own old
    → IsVenueTimed window (timed_event (Some t)
    (told_packet venue line number count bytes (Ok outcome)) ∷ own) new
timed_packet window venue line number count bytes t outcome own old new leads last timed = record {
  leads = leads window venue bytes (came_of own) (leads_before window A B own)
      (leads_before window B A own) timed.leads;
  last = last ∙ ap (with_line line (Some t)) timed.last
      ∙ last_with venue line number count bytes t outcome own;
}
