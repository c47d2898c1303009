use Rattle.std.proofs.Common.{◌∷◌, subst, sym}
use Rattle.event_sinks.specs.declared.event.ReplayedEvent.{ReplayedEvent}
use Rattle.event_sinks.specs.SinkEvents.{timed_event, told_by}
use Rattle.replay_reports.specs.times.VenueTiming.{IsVenueTimed}
use Rattle.replay_reports.proofs.times.venue_times.VenueTimes.take.Goals as goal

pub returns-in-Packet : goal.returns-in-Packet
returns-in-Packet c = λ window own timed.
    subst (λ (e : ReplayedEvent). IsVenueTimed window (timed_event c.args.time (told_by e) ∷ own)
    c.hear.new.self) (sym c.in-Packet.is)
    (c.hear.ensures window c.in-Packet.venue c.in-Packet.bytes own timed)

pub returns-in-Renewal : goal.returns-in-Renewal
returns-in-Renewal c = λ window own timed.
    subst (λ (e : ReplayedEvent). IsVenueTimed window (timed_event c.args.time (told_by e) ∷ own)
    c.renew.new.self) (sym c.in-Renewal.is)
    (c.renew.ensures window c.in-Renewal.venue c.args.time own timed)
