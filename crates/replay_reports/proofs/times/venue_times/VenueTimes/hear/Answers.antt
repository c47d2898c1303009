use Rattle.std.proofs.Common.{◌∷◌, Ok, Option, Result, Some, subst, sym}
use Rattle.line_arbiter.specs.declared.outcome.LineFault.{LineFault}
use Rattle.line_arbiter.specs.declared.outcome.Outcome.{Outcome}
use Rattle.event_sinks.specs.SinkEvents.{timed_event, told_packet}
use Rattle.replay_reports.specs.times.VenueTiming.{IsVenueTimed}
use Rattle.replay_reports.proofs.Timed.{timed_packet}
use Rattle.replay_reports.proofs.times.venue_times.VenueTimes.hear.Goals as goal

pub returns-in-Some : goal.returns-in-Some
returns-in-Some c = λ window venue bytes own timed.
    let a = c.args in
    let new = c.time_packet.new.self in
    subst (λ (r : Result Outcome LineFault). IsVenueTimed window (timed_event a.time
    (told_packet venue a.line a.number a.count bytes r) ∷ own) new) (sym c.in-Ok.is)
    (subst (λ (t : Option _). IsVenueTimed window (timed_event t
    (told_packet venue a.line a.number a.count bytes (Ok c.in-Ok.outcome)) ∷ own) new)
    (sym c.in-Some.is)
    (timed_packet window venue a.line a.number a.count bytes c.in-Some.time c.in-Ok.outcome own
    a.self.now new c.time_packet.ensures.leads c.time_packet.ensures.last timed))
