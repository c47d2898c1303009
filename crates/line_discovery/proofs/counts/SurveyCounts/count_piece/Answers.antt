use Rattle.std.proofs.Common.{ap}
use Rattle.packet_capture.specs.Captures.{frame_in_piece, piece_of}
use Rattle.packet_capture.specs.Frames.{frame_of}
use Rattle.line_captures.specs.declared.progress.Progress.{Progress}
use Rattle.line_discovery.specs.declared.counts.SurveyCounts.{SurveyCounts}
use Rattle.line_discovery.proofs.Reading.{counts_sighting}
use Rattle.line_discovery.proofs.counts.SurveyCounts.count_piece.Goals as goal

pub returns : goal.returns
returns c =
    let s = c.args.self.now in
    let counts_at : Progress → SurveyCounts =
    λ x. record { progress = x; lines = s.lines; others = s.others } in
    counts_sighting s (counts_at c.add_time.new.self) c.count_fate.new.self c.add_piece.new.self
    (piece_of c.args.piece.now) (frame_of c.in-Some.frame) c.fate_of.result c.add_piece.ensures
    (ap counts_at c.add_time.ensures) c.count_fate.ensures c.fate_of.ensures
    (ap frame_in_piece c.in-Some.is)
