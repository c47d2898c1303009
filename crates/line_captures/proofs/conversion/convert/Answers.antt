use Rattle.text_out.specs.Members.{reading_of, writing_of}
use Rattle.std.proofs.Common.{arith, refl, ap, subst, ℕ, ◌+◌, ◌∙◌, length-drop}
use Rattle.std.proofs.lemmas.Result.{err_from_is_err_and}
use Rattle.capture_records.specs.Capture.{IsRecord, record_of}
use Rattle.capture_records.specs.Formats.{timed_record}
use Rattle.line_captures.proofs.Converting.{Laws, copied_none, copied_record, copied_passed, copied_read, copied_written, copied_kept, unwritten}
use Rattle.line_captures.proofs.conversion.convert.Given.{Over}
use Rattle.line_captures.proofs.conversion.convert.Goals as goal

laws_of : (g : Over)
    → Laws (reading_of g.R.CaptureIn)
    (record {
      reads = g.F.RecordFormat.reads;
      wants = g.F.RecordFormat.wants;
      is_bad = g.F.RecordFormat.is_bad;
      is_whole = g.F.RecordFormat.is_whole;
    })
    (writing_of g.W.TextOut)
laws_of g = record {
  gives_none = g.met.R.CaptureIn.gives_none;
  gives_more = g.met.R.CaptureIn.gives_more;
  reads_none = g.met.F.RecordFormat.reads_none;
  reads_more = g.met.F.RecordFormat.reads_more;
  reads_longer = g.met.F.RecordFormat.reads_longer;
  adds_none = g.met.W.TextOut.adds_none;
  adds_more = g.met.W.TextOut.adds_more;
}

pub pieces-init : goal.pieces-init
pieces-init g c = record {
  copied = copied_none (laws_of g) _ _ _ (omega arith) c.in-Ok.ensures.0 c.in-Ok.ensures.1;
  turns = omega arith;
  room = rw c.in-Ok.ensures.0 (omega arith);
  page = rw c.in-Ok.ensures.1 (omega arith);
  reads = refl;
  writes = refl;
  of_venues = refl;
}

pub returns-in_err-write_full-in-Came : goal.returns-in_err-write_full-in-Came
returns-in_err-write_full-in-Came g c =
    let p = err_from_is_err_and c.from_residual.result c.from_residual.ensures.1 in
    let failed = c.in_err-write_full-in-Came.ensures in
    let waits = copied_record (laws_of g) (timed_record (record_of c.in-Came.record) c.in-Came.time)
    c.in-Came.len c.bytes.ensures c.advance.ensures c.in-Came.ensures.steps
    (subst (λ (n : ℕ). IsRecord n (record_of c.in-Came.record)) c.pieces.invariant.of_venues
    c.in-Came.ensures.came) c.put_record.ensures c.pieces.invariant.copied in
    rw (p.1, p.2) (
      unwritten (laws_of g) failed.part waits,
      failed.failed ∙ ap (λ (n : ℕ). n + 1)
          c.pieces.invariant.writes,
    )

pub pieces-preserved-in-Continue-1 : goal.pieces-preserved-in-Continue-1
pieces-preserved-in-Continue-1 g c =
    let wrote = c.in_ok-write_full-in-Came.ensures in
    let waits = copied_record (laws_of g) (timed_record (record_of c.in-Came.record) c.in-Came.time)
    c.in-Came.len c.bytes.ensures c.advance.ensures c.in-Came.ensures.steps
    (subst (λ (n : ℕ). IsRecord n (record_of c.in-Came.record)) c.pieces.invariant.of_venues
    c.in-Came.ensures.came) c.put_record.ensures c.pieces.invariant.copied in
    record {
      copied = copied_written (laws_of g) wrote.written waits;
      turns = c.pieces.invariant.turns;
      room = rw c.advance.ensures (omega (arith, c.pieces.invariant.room, length-drop {A = ℕ}));
      page = wrote.room;
      reads = c.pieces.invariant.reads;
      writes = wrote.kept ∙ c.pieces.invariant.writes;
      of_venues = g.met.F.RecordFormat.reads_venues _ _ _ _ _ c.in-Came.ensures.steps.read
          ∙ c.pieces.invariant.of_venues;
    }

pub pieces-preserved-in-Passed : goal.pieces-preserved-in-Passed
pieces-preserved-in-Passed g c =
    let piece = c.in-Passed.ensures.steps in
    record {
      copied = copied_passed (laws_of g) c.in-Passed.len c.bytes.ensures c.advance-in-Passed.ensures
          piece c.pieces.invariant.copied;
      turns = c.pieces.invariant.turns;
      room = rw c.advance-in-Passed.ensures
          (omega (arith, c.pieces.invariant.room, length-drop {A = ℕ}));
      page = c.pieces.invariant.page;
      reads = c.pieces.invariant.reads;
      writes = c.pieces.invariant.writes;
      of_venues = g.met.F.RecordFormat.reads_venues _ _ _ _ _ piece.read
          ∙ c.pieces.invariant.of_venues;
    }

pub returns-in_err-write_page-in-Bad : goal.returns-in_err-write_page-in-Bad
returns-in_err-write_page-in-Bad g c =
    let p = err_from_is_err_and c.from_residual-in_err-write_page-in-Bad.result
    c.from_residual-in_err-write_page-in-Bad.ensures.1 in
    let failed = c.in_err-write_page-in-Bad.ensures in
    rw (p.1, p.2) (
      unwritten (laws_of g) failed.part (copied_kept (laws_of g) c.in-Bad.ensures.steps.1
          c.pieces.invariant.copied),
      failed.failed ∙ ap (λ (n : ℕ). n + 1) c.pieces.invariant.writes,
    )

pub returns-in_err-write_page-in-Wants : goal.returns-in_err-write_page-in-Wants
returns-in_err-write_page-in-Wants g c =
    let p = err_from_is_err_and c.from_residual-in_err-write_page-in-Wants.result
    c.from_residual-in_err-write_page-in-Wants.ensures.1 in
    let failed = c.in_err-write_page-in-Wants.ensures in
    rw (p.1, p.2) (
      unwritten (laws_of g) failed.part (copied_kept (laws_of g) c.in-Wants.ensures.steps.2
          c.pieces.invariant.copied),
      failed.failed ∙ ap (λ (n : ℕ). n + 1) c.pieces.invariant.writes,
    )

pub pieces-preserved : goal.pieces-preserved
pieces-preserved g c =
    let same = c.in-Wants.ensures.steps.2 in
    let wrote = c.in_ok-write_page-in-Wants.ensures in
    record {
      copied = copied_read (laws_of g) _ (omega (
        arith,
        c.pieces.invariant.turns,
        c.if-left-eq0.false,
      )) (c.in-Went.ensures.went refl)
          (copied_written (laws_of g) wrote.written (copied_kept (laws_of g) same
          c.pieces.invariant.copied));
      turns = omega (arith, c.pieces.invariant.turns);
      room = c.read_from.ensures.bound;
      page = rw wrote.none (omega arith);
      reads = c.in-Went.ensures.kept (λ e. absurd cc) ∙ c.pieces.invariant.reads;
      writes = wrote.kept ∙ c.pieces.invariant.writes;
      of_venues = ap g.F.RecordFormat.venues same ∙ c.pieces.invariant.of_venues;
    }
