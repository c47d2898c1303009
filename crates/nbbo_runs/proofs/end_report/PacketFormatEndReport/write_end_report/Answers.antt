use Rattle.std.proofs.Common.{ℕ, ◌++◌, subst}
use Rattle.std.specs.Prelude.{Option}
use Rattle.text_out.specs.Devices.{Writing}
use Rattle.text_out.specs.Members.{writing_of}
use Rattle.text_out.specs.StandardError.{SaysEach}
use Rattle.text_out.specs.laws.SaidTexts.{says_each}
use Rattle.line_captures.specs.declared.drop_counts.DroppedFrames.{DroppedFrames}
use Rattle.line_captures.specs.declared.frame_counts.FrameCounts.{FrameCounts}
use Rattle.line_captures.specs.DropCounts.{dropped_of}
use Rattle.nbbo_runs.specs.CaptureTexts.{capture_outcome_texts, dropped_texts, frame_texts, second_texts}
use Rattle.nbbo_runs.proofs.end_report.PacketFormatEndReport.write_end_report.Goals as goal

pub returns : goal.returns
returns g c =
    let w : Writing g.row.E.Denot = writing_of g.E.TextOut in
    let read = c.args.self.now.progress in
    let outcome = c.args.outcome.now in
    let framed = c.write_counts.new.errors in
    let dropped = c.write_dropped.new.errors in
    let ended = c.write_outcome.new.errors in
    let end = c.write_second.new.errors in
    let drops = dropped_texts (dropped_of read.drops) in
    let line = capture_outcome_texts outcome read.position read.counts.to_lines in
    let second = second_texts outcome read.second_start read.position in
    let says_frames : SaysEach w (frame_texts read.counts) c.args.errors.now framed =
    subst (λ (n : FrameCounts). SaysEach w (frame_texts n) c.args.errors.now framed)
    c.counts-frames.ensures c.write_counts.ensures in
    let says_dropped : SaysEach w drops framed dropped =
    subst (λ (d : DroppedFrames). SaysEach w (dropped_texts d) framed dropped)
    c.dropped-lost.ensures c.write_dropped.ensures in
    let says_line : SaysEach w line dropped ended =
    subst (λ (n : ℕ). SaysEach w (capture_outcome_texts outcome n read.counts.to_lines) dropped
    ended) c.position.ensures
    (subst (λ (n : FrameCounts).
    SaysEach w (capture_outcome_texts outcome c.position.result n.to_lines) dropped ended)
    c.counts-frames.ensures c.write_outcome.ensures) in
    let says_second : SaysEach w second ended end =
    subst (λ (n : ℕ). SaysEach w (second_texts outcome read.second_start n) ended end)
    c.position-2.ensures
    (subst (λ (n : Option ℕ). SaysEach w (second_texts outcome n c.position-2.result) ended end)
    c.second_start.ensures c.write_second.ensures) in
    says_each w (frame_texts read.counts) (drops ++ (line ++ second)) c.args.errors.now framed end
    says_frames
    (says_each w drops (line ++ second) framed dropped end says_dropped
    (says_each w line second dropped ended end says_line says_second))
