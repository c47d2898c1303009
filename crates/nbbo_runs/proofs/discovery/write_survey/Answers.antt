use Rattle.std.proofs.Common.{◌≡◌, ◌++◌, ℕ, Option, subst, length}
use Rattle.text_out.specs.Devices.{Writing}
use Rattle.text_out.specs.Members.{writing_of}
use Rattle.text_out.specs.StandardError.{SaysEach}
use Rattle.text_out.specs.laws.SaidTexts.{says_each}
use Rattle.line_captures.specs.declared.drop_counts.DroppedFrames.{DroppedFrames}
use Rattle.line_captures.specs.declared.frame_counts.FrameCounts.{FrameCounts}
use Rattle.line_captures.specs.DropCounts.{dropped_of}
use Rattle.line_discovery.specs.Tables.{up_to_most}
use Rattle.nbbo_runs.specs.CaptureTexts.{dropped_texts, lost_texts, other_texts, protocols_texts, second_texts}
use Rattle.nbbo_runs.specs.Discovery.{survey_outcome_texts}
use Rattle.nbbo_runs.proofs.discovery.write_survey.Goals as goal

pub returns : goal.returns
returns g c =
    let w : Writing g.row.E.Denot = writing_of g.E.TextOut in
    let survey = c.args.survey.now in
    let progress = survey.counts.progress in
    let packets = up_to_most (length survey.counts.lines) in
    let outcome = c.args.outcome.now in
    let start = c.args.errors.now in
    let one = c.write_protocols.new.errors in
    let two = c.write_lost.new.errors in
    let three = c.write_other.new.errors in
    let four = c.write_dropped.new.errors in
    let five = c.write_survey_outcome.new.errors in
    let end = c.write_second.new.errors in
    let counts : c.frames-frames.result ≡ progress.counts = c.frames-frames.ensures in
    let last = second_texts outcome progress.second_start progress.position in
    let told = survey_outcome_texts outcome progress.position packets in
    let dropped = dropped_texts (dropped_of progress.drops) in
    says_each w (protocols_texts progress.counts)
    (lost_texts progress.counts ++ (other_texts progress.counts ++ (dropped ++ (told ++ last))))
    start one end
    (subst (λ (f : FrameCounts). SaysEach w (protocols_texts f) start one) counts
    c.write_protocols.ensures)
    (says_each w (lost_texts progress.counts)
    (other_texts progress.counts ++ (dropped ++ (told ++ last))) one two end
    (subst (λ (f : FrameCounts). SaysEach w (lost_texts f) one two) counts c.write_lost.ensures)
    (says_each w (other_texts progress.counts) (dropped ++ (told ++ last)) two three end
    (subst (λ (f : FrameCounts). SaysEach w (other_texts f) two three) counts
    c.write_other.ensures)
    (says_each w dropped (told ++ last) three four end
    (subst (λ (d : DroppedFrames). SaysEach w (dropped_texts d) three four) c.dropped.ensures
    c.write_dropped.ensures)
    (says_each w told last four five end
    (subst (λ (n : ℕ). SaysEach w (survey_outcome_texts outcome progress.position n) four five)
    c.packets.ensures
    (subst (λ (n : ℕ). SaysEach w (survey_outcome_texts outcome n c.packets.result) four five)
    c.position.ensures c.write_survey_outcome.ensures))
    (subst (λ (n : ℕ). SaysEach w (second_texts outcome progress.second_start n) five end)
    c.position-2.ensures
    (subst (λ (n : Option ℕ). SaysEach w (second_texts outcome n c.position-2.result) five end)
    c.second_start.ensures c.write_second.ensures))))))
