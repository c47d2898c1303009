use Rattle.std.proofs.Common.{refl, ap}
use Rattle.packet_capture.specs.Captures.{frame_in_piece, piece_of}
use Rattle.packet_capture.specs.Frames.{frame_of}
use Rattle.capture_records.specs.Capture.{record_of}
use Rattle.line_captures.specs.declared.progress.Progress.{Progress}
use Rattle.line_captures.specs.PacketFormats.{record_on_line}
use Rattle.line_captures.specs.CountLaws.{counts_frame}
use Rattle.line_captures.proofs.Packets.{record_ok}
use Rattle.line_captures.proofs.packet_format.step_of.Goals as goal

pub returns-in-Some-datagram_in-clause-counts : goal.returns-in-Some-datagram_in-clause-counts
returns-in-Some-datagram_in-clause-counts c =
    let after : Progress = record {
      position = c.add_time.new.self.position;
      latest_time =
          c.add_time.new.self.latest_time;
      second_start = c.add_time.new.self.second_start;
      counts = c.datagram_in.new.counts;
      drops = c.add_time.new.self.drops;
    } in
    counts_frame c.args.lines.now c.args.progress.now c.add_piece.new.self c.add_time.new.self after
    (piece_of c.args.piece) (frame_of c.in-Some.frame)
    c.add_piece.ensures c.add_time.ensures refl c.datagram_in.ensures.counts
    (ap frame_in_piece c.in-Some.is)

pub returns-in-None-clause-counts : goal.returns-in-None-clause-counts
returns-in-None-clause-counts c =
    let after : Progress = record {
      position = c.add_time.new.self.position;
      latest_time =
          c.add_time.new.self.latest_time;
      second_start = c.add_time.new.self.second_start;
      counts = c.datagram_in.new.counts;
      drops = c.add_time.new.self.drops;
    } in
    counts_frame c.args.lines.now c.args.progress.now c.add_piece.new.self c.add_time.new.self after
    (piece_of c.args.piece) (frame_of c.in-Some.frame)
    c.add_piece.ensures c.add_time.ensures refl c.datagram_in.ensures.counts
    (ap frame_in_piece c.in-Some.is)

pub returns-in-Some-datagram_in-clause-came : goal.returns-in-Some-datagram_in-clause-came
returns-in-Some-datagram_in-clause-came c = λ venues of. record_ok venues c.args.lines.now
    (record_of (record_on_line c.in-Some-datagram_in.datagram))
    c.in-Some-datagram_in.ensures.of_line of
