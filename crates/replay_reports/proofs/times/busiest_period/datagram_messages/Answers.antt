use Rattle.std.proofs.Common.{◌≡◌, Some, subst, sym}
use Rattle.event_sinks.specs.declared.event.ReplayedEvent.{ReplayedEvent}
use Rattle.event_sinks.specs.SinkEvents.{told_by}
use Rattle.replay_reports.specs.times.Busiest.{datagram_messages}
use Rattle.replay_reports.proofs.times.busiest_period.datagram_messages.Goals as goal

pub returns-in-Packet : goal.returns-in-Packet
returns-in-Packet c =
    let p = c.in-Packet in
    subst (λ (e : ReplayedEvent). Some c.taken_messages.result
    ≡ datagram_messages (told_by e)) (sym p.is)
    (c.taken_messages.ensures p.venue p.number p.count p.bytes p.line)
