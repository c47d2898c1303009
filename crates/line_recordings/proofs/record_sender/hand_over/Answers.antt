use Rattle.line_recordings.proofs.Handing.{handed_if}
use Rattle.line_recordings.proofs.record_sender.hand_over.Goals as goal

pub returns-in-Some : goal.returns-in-Some
returns-in-Some c =
    handed_if c.args.records.now c.in-Some.sender c.record.new.self c.args.place
    c.args.begun c.args.bytes.now c.in-Some.is c.record.ensures
