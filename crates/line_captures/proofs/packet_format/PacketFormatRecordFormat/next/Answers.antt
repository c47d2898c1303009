use Rattle.std.proofs.Common.{subst}
use Rattle.capture_records.specs.Formats.{CameOf, StepsTo}
use Rattle.line_captures.specs.PacketFormats.{PacketState, ReadsPackets, packet_state, wants_packets, is_bad_packets}
use Rattle.line_captures.proofs.packet_format.PacketFormatRecordFormat.next.Goals as goal

pub returns-clause-steps : goal.returns-clause-steps
returns-clause-steps c =
    let t : PacketState = packet_state c.self.inside.venues c.self.inside.lines.now
    c.front_step.new.capture c.front_step.new.progress in
    subst (λ (v : PacketState). StepsTo ReadsPackets wants_packets is_bad_packets v c.args.bytes.now
    c.front_step.result t) c.self.view_is
    (c.front_step.ensures.steps c.self.inside.venues)

pub returns-clause-came : goal.returns-clause-came
returns-clause-came c =
    subst (λ (v : PacketState). CameOf v.venues c.front_step.result) c.self.view_is
    (c.front_step.ensures.came c.self.inside.venues c.self.invariant)
