use Rattle.std.proofs.Common.{refl}
use Rattle.capture_records.proofs.OwnSteps.{own_piece, own_unfinished, own_wants_few}
use Rattle.capture_records.specs.Capture.{record_of}
use Rattle.capture_records.proofs.own_format.OwnFormatRecordFormat.next.Goals.{in-Whole, in-Bad, in-Wants}
use Rattle.capture_records.proofs.own_format.OwnFormatRecordFormat.next.Goals as goal

pub returns-clause-steps : goal.returns-clause-steps
returns-clause-steps c = elim c.match-parse_record.branch [
  | in-Whole w ↦ rw (w.result-is, ← c.self.view_is)
      (own_piece c.self.inside.venues w.in-Whole.len c.args.bytes.now (record_of w.in-Whole.record)
      w.in-Whole.ensures.1 w.in-Whole.ensures.2)
  | in-Bad w ↦ rw (w.result-is, ← c.self.view_is) (w.in-Bad.ensures, refl)
  | in-Wants w ↦ rw (w.result-is, ← c.self.view_is) (
    own_unfinished c.self.inside.venues w.in-Wants.field-0 c.args.bytes.now w.in-Wants.ensures.0,
    own_wants_few c.self.inside.venues w.in-Wants.field-0 c.args.bytes.now
        w.in-Wants.ensures.0 w.in-Wants.ensures.1,
    refl,
  )
]

pub returns-clause-came : goal.returns-clause-came
returns-clause-came c = elim c.match-parse_record.branch [
  | in-Whole w ↦ rw (w.result-is, ← c.self.view_is) w.in-Whole.ensures.0
  | in-Bad w ↦ rw w.result-is tt
  | in-Wants w ↦ rw w.result-is tt
]
