use Rattle.std.proofs.Common.{refl, ap}
use Rattle.packet_capture.specs.Captures.{frame_in_piece, piece_of}
use Rattle.packet_capture.specs.Frames.{frame_of}
use Rattle.capture_records.specs.Capture.{record_of}
use Rattle.line_captures.specs.declared.progress.Progress.{Progress}
use Rattle.line_captures.specs.PacketFormats.{record_on_line}
use Rattle.line_captures.specs.CountLaws.{counts_frame}
use Rattle.line_captures.proofs.Packets.{none_timed, one_timed, record_ok}
use Rattle.line_captures.proofs.packet_format.plain_step.Goals as goal

pub returns-in-Some-clause-step : goal.returns-in-Some-clause-step
returns-in-Some-clause-step c =
    let packet = c.args.packet in (
      refl,
      one_timed c.args.lines.now (piece_of packet.piece) (frame_of packet.frame)
          (record_of (record_on_line c.in-Some.found)) (ap frame_in_piece c.requires.framed)
          (c.in-Some.ensures.some (frame_of packet.frame) c.requires.carried),
    )

pub returns-in-None-clause-step : goal.returns-in-None-clause-step
returns-in-None-clause-step c =
    let packet = c.args.packet in (
      refl,
      none_timed c.args.lines.now (piece_of packet.piece) (frame_of packet.frame)
          (ap frame_in_piece c.requires.framed)
          (c.in-None.ensures.none (frame_of packet.frame) c.requires.carried),
    )

pub returns-in-Some-clause-counts : goal.returns-in-Some-clause-counts
returns-in-Some-clause-counts c =
    let after : Progress = record {
      position = c.add_time.new.self.position;
      latest_time = c.add_time.new.self.latest_time;
      second_start = c.add_time.new.self.second_start;
      counts = c.line_datagram.new.counts;
      drops = c.add_time.new.self.drops;
    } in
    let packet = c.args.packet in
    counts_frame c.args.lines.now c.args.progress.now c.add_piece.new.self c.add_time.new.self after
    (piece_of packet.piece) (frame_of packet.frame) c.add_piece.ensures c.add_time.ensures refl
    (c.line_datagram.ensures.counts (frame_of packet.frame) c.requires.carried)
    (ap frame_in_piece c.requires.framed)

pub returns-in-None-clause-counts : goal.returns-in-None-clause-counts
returns-in-None-clause-counts c =
    let after : Progress = record {
      position = c.add_time.new.self.position;
      latest_time = c.add_time.new.self.latest_time;
      second_start = c.add_time.new.self.second_start;
      counts = c.line_datagram.new.counts;
      drops = c.add_time.new.self.drops;
    } in
    let packet = c.args.packet in
    counts_frame c.args.lines.now c.args.progress.now c.add_piece.new.self c.add_time.new.self after
    (piece_of packet.piece) (frame_of packet.frame) c.add_piece.ensures c.add_time.ensures refl
    (c.line_datagram.ensures.counts (frame_of packet.frame) c.requires.carried)
    (ap frame_in_piece c.requires.framed)

pub returns-in-Some-clause-came : goal.returns-in-Some-clause-came
returns-in-Some-clause-came c = λ venues of. record_ok venues c.args.lines.now
    (record_of (record_on_line c.in-Some.found)) c.in-Some.ensures.of_line of
