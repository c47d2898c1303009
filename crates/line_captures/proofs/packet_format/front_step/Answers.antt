use Rattle.std.proofs.Common.{refl}
use Rattle.packet_capture.specs.Captures.{piece_of}
use Rattle.line_captures.specs.PacketFormats.{packet_state, step_from}
use Rattle.line_captures.proofs.Packets.{step_read}
use Rattle.line_captures.proofs.packet_format.front_step.Goals as goal

pub returns-in-Some-clause-steps : goal.returns-in-Some-clause-steps
returns-in-Some-clause-steps c = λ venues.
    rw c.into_step.ensures
    (step_read c.read_as_bytes_come.ensures.piece
    (packet_state venues c.args.lines.now c.args.capture.now c.args.progress.now)
    (packet_state venues c.args.lines.now c.args.capture.now c.plain_step.new.progress)
    c.args.bytes.now (piece_of c.in-Some.packet.piece) (step_from c.plain_step.result)
    c.in-Some.ensures.piece
    refl refl c.plain_step.ensures.counts c.plain_step.ensures.step)

pub returns-in-Some-clause-came : goal.returns-in-Some-clause-came
returns-in-Some-clause-came c = λ venues of.
    rw c.into_step.ensures (c.plain_step.ensures.came venues of)

pub returns-in-None-clause-steps : goal.returns-in-None-clause-steps
returns-in-None-clause-steps c = λ venues.
    rw (c.into_step-in-None.ensures, c.apart.ensures) (c.any_step.ensures.steps venues)

pub returns-in-None-clause-came : goal.returns-in-None-clause-came
returns-in-None-clause-came c = λ venues of.
    rw (c.into_step-in-None.ensures, c.apart.ensures) (c.any_step.ensures.came venues of)
