use Rattle.std.proofs.Common.{refl, ap}
use Rattle.packet_capture.specs.Captures.{Context, piece_of}
use Rattle.line_captures.specs.PacketFormats.{packet_state, step_from}
use Rattle.line_captures.proofs.Packets.{step_read, stop_read}
use Rattle.line_captures.proofs.packet_format.any_step.Goals as goal

pub returns-in-Ok-clause-steps : goal.returns-in-Ok-clause-steps
returns-in-Ok-clause-steps c = λ venues.
    step_read c.read_as_bytes_come.ensures.piece
    (packet_state venues c.args.lines.now c.args.capture.now c.args.progress.now)
    (packet_state venues c.args.lines.now c.next_piece.new.self c.step_of.new.progress)
    c.args.bytes.now (piece_of c.in-Ok.piece) (step_from c.step_of.result) c.in-Ok.ensures.piece
    refl refl c.step_of.ensures.counts c.step_of.ensures.step

pub returns-in-Err-clause-steps : goal.returns-in-Err-clause-steps
returns-in-Err-clause-steps c = λ venues.
    stop_read (packet_state venues c.args.lines.now c.args.capture.now c.args.progress.now)
    (packet_state venues c.args.lines.now c.next_piece.new.self c.args.progress.now)
    c.args.bytes.now c.in-Err.stop (step_from c.step_at.result) c.in-Err.ensures.stop
    (ap (λ (x : Context). packet_state venues c.args.lines.now x c.args.progress.now)
    c.in-Err.ensures.kept)
    c.step_at.ensures
