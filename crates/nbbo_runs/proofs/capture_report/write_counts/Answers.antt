use Rattle.text_out.specs.Devices.{Writing}
use Rattle.text_out.specs.Members.{writing_of}
use Rattle.std.proofs.Common.{◌++◌}
use Rattle.nbbo_runs.specs.CaptureTexts.{frames_texts, lost_texts, other_texts, protocols_texts}
use Rattle.text_out.specs.laws.SaidTexts.{says_each}
use Rattle.nbbo_runs.proofs.capture_report.write_counts.Goals as goal

pub returns : goal.returns
returns g c =
    let w : Writing g.row.E.Denot = writing_of g.E.TextOut in
    let counts = c.args.counts.now in
    let lost = lost_texts counts in
    let other = other_texts counts in
    says_each w (frames_texts counts) (protocols_texts counts ++ (lost ++ other))
    c.args.errors.now c.write_frames.new.errors c.write_other.new.errors c.write_frames.ensures
    (says_each w (protocols_texts counts) (lost ++ other) c.write_frames.new.errors
    c.write_protocols.new.errors c.write_other.new.errors c.write_protocols.ensures
    (says_each w lost other c.write_protocols.new.errors c.write_lost.new.errors
    c.write_other.new.errors c.write_lost.ensures c.write_other.ensures))
