use Rattle.text_out.specs.Members.{reading_of, writing_of}
use Rattle.std.proofs.Common.{arith, refl, ap, subst, sym, ℕ, List, [], ◌∷◌, ◌≡◌, ◌+◌, ◌∙◌, None, Ok, Err, length-drop}
use Rattle.std.proofs.lemmas.Bool.{false≢true}
use Rattle.std.proofs.lemmas.Result.{err_from_is_err_and}
use Rattle.capture_records.specs.Capture.{IsRecord, record_of}
use Rattle.capture_records.specs.Formats.{timed_record}
use Rattle.normalising.specs.Keeping.{FollowsRun, RunsOn}
use Rattle.normalising.proofs.Running.{Laws, has_all, has_part, kept_none, kept_passed, kept_read, kept_record, kept_same, kept_written, stop_answers}
use Rattle.normalising.proofs.Venues.{is_same, same_then}
use Rattle.normalising.proofs.conversion.read_all.Given.{Over}
use Rattle.normalising.proofs.conversion.read_all.Goals as goal

laws_of : (g : Over)
    → Laws (reading_of g.R.CaptureIn) (record {
      reads = g.F.RecordFormat.reads;
      wants = g.F.RecordFormat.wants;
      is_bad = g.F.RecordFormat.is_bad;
      is_whole = g.F.RecordFormat.is_whole;
    }) (writing_of g.W.TextOut)
laws_of g = record {
  gives_none = g.met.R.CaptureIn.gives_none;
  gives_more = g.met.R.CaptureIn.gives_more;
  reads_none = g.met.F.RecordFormat.reads_none;
  reads_more = g.met.F.RecordFormat.reads_more;
  reads_longer = g.met.F.RecordFormat.reads_longer;
  adds_none = g.met.W.TextOut.adds_none;
  adds_more = g.met.W.TextOut.adds_more;
}

pub pieces-init : goal.pieces-init
pieces-init g c = record {
  kept = kept_none (laws_of g) _ _ _ (FollowsRun c.args.venues.now None) (omega arith)
      c.requires.unread c.requires.new.waits c.requires.new.at c.requires.new.is_new
      c.requires.new.follows;
  turns = omega arith;
  room = rw c.requires.unread (omega arith);
  reads = refl;
  writes = refl;
  of_venues = refl;
  same = is_same c.args.venues.now;
}

pub take_timed-requires-clause-venue : goal.take_timed-requires-clause-venue
take_timed-requires-clause-venue g c =
    let came = c.in-Came.ensures.came.venue in
    let of = c.pieces.invariant.of_venues ∙ c.requires.of_venues in
    let many = c.requires.new.follows.venues.count in
    let each = c.requires.new.is_new.count in
    let kept = c.pieces.invariant.same.count in
    omega (arith, came, of, many, each, kept)

pub take_timed-requires-clause-few : goal.take_timed-requires-clause-few
take_timed-requires-clause-few g c =
    let kept = c.pieces.invariant.same.count in
    omega (arith, c.requires.few, kept)

pub returns-in-Err-clause-answers : goal.returns-in-Err-clause-answers
returns-in-Err-clause-answers g c =
    let r = timed_record (record_of c.in-Came.record) c.in-Came.time in
    stop_answers (laws_of g) c.args.turns c.take_timed.new.self.output.page.page
    c.take_timed.new.writer c.stop_at.new.writer (λ l. l ≡ [])
    (FollowsRun c.take_timed.new.self None) (FollowsRun c.stop_at.new.venues None) r c.in-Came.len
    c.in-Err.stop c.stop_at.result c.bytes.ensures c.in-Came.ensures.steps
    (subst (λ (n : ℕ). IsRecord n r.what)
    (c.pieces.invariant.of_venues ∙ c.requires.of_venues) c.in-Came.ensures.came)
    c.pieces.invariant.writes c.pieces.invariant.kept
    (subst (λ feed. RunsOn {A = Unit {0}} (writing_of g.W.TextOut) feed (r ∷ [])
    c.pieces.invariant.kept.at (λ l. l ≡ [])
    (FollowsRun c.take_timed.new.self None) c.pieces.writer c.take_timed.new.writer
    c.pieces.venues.output.page.page c.take_timed.new.self.output.page.page (Err c.in-Err.stop))
    c.pieces.invariant.same.settings
    (c.in-Err.ensures.takes c.pieces.invariant.kept.at c.pieces.invariant.kept.is_at))
    c.stop_at.ensures.ends

pub pieces-preserved-in-Came : goal.pieces-preserved-in-Came
pieces-preserved-in-Came g c =
    let r = timed_record (record_of c.in-Came.record) c.in-Came.time in
    let piece = c.in-Came.ensures.steps in
    let took = subst (λ feed. RunsOn {A = Unit {0}} (writing_of g.W.TextOut) feed (r ∷ [])
    c.pieces.invariant.kept.at (λ l. l ≡ [])
    (FollowsRun c.take_timed.new.self None) c.pieces.writer c.take_timed.new.writer
    c.pieces.venues.output.page.page c.take_timed.new.self.output.page.page (Ok tt))
    c.pieces.invariant.same.settings
    (c.in_default.ensures.takes c.pieces.invariant.kept.at c.pieces.invariant.kept.is_at) in
    record {
      kept = kept_record (laws_of g) (FollowsRun c.take_timed.new.self None) r c.in-Came.len
          c.bytes.ensures c.advance.ensures piece
          (subst (λ (n : ℕ). IsRecord n r.what)
          (c.pieces.invariant.of_venues ∙ c.requires.of_venues) c.in-Came.ensures.came)
          c.pieces.invariant.kept took;
      turns = c.pieces.invariant.turns;
      room = rw c.advance.ensures (omega (arith, c.pieces.invariant.room, length-drop {A = ℕ}));
      reads = c.pieces.invariant.reads;
      writes = took.puts.kept ∙ c.pieces.invariant.writes;
      of_venues = g.met.F.RecordFormat.reads_venues _ _ _ _ _ piece.read
          ∙ c.pieces.invariant.of_venues;
      same = same_then c.args.venues.now c.pieces.venues c.take_timed.new.self
          c.pieces.invariant.same c.in_default.ensures.same;
    }

pub pieces-preserved-in-Passed : goal.pieces-preserved-in-Passed
pieces-preserved-in-Passed g c =
    let piece = c.in-Passed.ensures.steps in
    record {
      kept = kept_passed (laws_of g) c.in-Passed.len c.bytes.ensures c.advance-in-Passed.ensures
          piece c.pieces.invariant.kept;
      turns = c.pieces.invariant.turns;
      room = rw c.advance-in-Passed.ensures
          (omega (arith, c.pieces.invariant.room, length-drop {A = ℕ}));
      reads = c.pieces.invariant.reads;
      writes = c.pieces.invariant.writes;
      of_venues = g.met.F.RecordFormat.reads_venues _ _ _ _ _ piece.read
          ∙ c.pieces.invariant.of_venues;
      same = c.pieces.invariant.same;
    }

pub returns-in_err-write-in-Bad-clause-answers : goal.returns-in_err-write-in-Bad-clause-answers
returns-in_err-write-in-Bad-clause-answers g c =
    let p = err_from_is_err_and c.from_residual.result c.from_residual.ensures.1 in
    let failed = c.in_err-write-in-Bad.ensures in
    rw (p.1, p.2) (
      has_part (laws_of g) failed.part
          (kept_same (laws_of g) c.in-Bad.ensures.steps.1 c.pieces.invariant.kept),
      failed.failed ∙ ap (λ (n : ℕ). n + 1) c.pieces.invariant.writes,
    )

pub returns-in-Bad-clause-answers : goal.returns-in-Bad-clause-answers
returns-in-Bad-clause-answers g c =
    let same = c.in-Bad.ensures.steps.1 in
    let wrote = c.in_ok-write-in-Bad.ensures in
    let bad = subst (λ (bs : List ℕ). g.F.RecordFormat.is_bad c.pieces.format bs c.in-Bad.fault)
    c.bytes.ensures c.in-Bad.ensures.steps.0 in
    has_all (laws_of g) _ _ wrote.none (rw same bad) refl
    (kept_written (laws_of g) (FollowsRun c.write.new.self None) wrote.written wrote.none
    (wrote.follows None) (kept_same (laws_of g) same c.pieces.invariant.kept))

pub returns-in_err-write-in-Wants-clause-answers : goal.returns-in_err-write-in-Wants-clause-answers
returns-in_err-write-in-Wants-clause-answers g c =
    let p = err_from_is_err_and c.from_residual-in_err-write-in-Wants.result
    c.from_residual-in_err-write-in-Wants.ensures.1 in
    let failed = c.in_err-write-in-Wants.ensures in
    rw (p.1, p.2) (
      has_part (laws_of g) failed.part
          (kept_same (laws_of g) c.in-Wants.ensures.steps.2 c.pieces.invariant.kept),
      failed.failed ∙ ap (λ (n : ℕ). n + 1) c.pieces.invariant.writes,
    )

pub returns-then-left-eq0-clause-answers : goal.returns-then-left-eq0-clause-answers
returns-then-left-eq0-clause-answers g c =
    let same = c.in-Wants.ensures.steps.2 in
    let wrote = c.in_ok-write-in-Wants.ensures in
    let wants = subst (λ (bs : List ℕ). g.F.RecordFormat.wants c.pieces.format bs) c.bytes.ensures
    c.in-Wants.ensures.steps.0 in
    has_all (laws_of g) _ _ wrote.none (rw same wants) (omega (arith, c.if-left-eq0.true), refl)
    (kept_written (laws_of g) (FollowsRun c.write-in-Wants.new.self None) wrote.written wrote.none
    (wrote.follows None) (kept_same (laws_of g) same c.pieces.invariant.kept))

pub pieces-preserved : goal.pieces-preserved
pieces-preserved g c =
    let same = c.in-Wants.ensures.steps.2 in
    let wrote = c.in_ok-write-in-Wants.ensures in
    record {
      kept = kept_read (laws_of g) _ (omega (
        arith,
        c.pieces.invariant.turns,
        c.if-left-eq0.false,
      )) (c.in-Went.ensures.went refl)
          (kept_written (laws_of g) (FollowsRun c.write-in-Wants.new.self None) wrote.written
          wrote.none (wrote.follows None)
          (kept_same (laws_of g) same c.pieces.invariant.kept));
      turns = omega (arith, c.pieces.invariant.turns);
      room = c.in-Went.ensures.bound;
      reads = c.in-Went.ensures.kept (λ e. absurd cc) ∙ c.pieces.invariant.reads;
      writes = wrote.kept ∙ c.pieces.invariant.writes;
      of_venues = ap g.F.RecordFormat.venues same ∙ c.pieces.invariant.of_venues;
      same = same_then c.args.venues.now c.pieces.venues c.write-in-Wants.new.self
          c.pieces.invariant.same wrote.same;
    }

pub returns-in-Failed-clause-answers : goal.returns-in-Failed-clause-answers
returns-in-Failed-clause-answers g c =
    let same = c.in-Wants.ensures.steps.2 in
    let wrote = c.in_ok-write-in-Wants.ensures in
    let wants = subst (λ (bs : List ℕ). g.F.RecordFormat.wants c.pieces.format bs) c.bytes.ensures
    c.in-Wants.ensures.steps.0 in (
      has_all (laws_of g) _ _ wrote.none (rw same wants) (c.in-Failed.ensures.fails refl)
          (kept_written (laws_of g) (FollowsRun c.write-in-Wants.new.self None) wrote.written
          wrote.none (wrote.follows None)
          (kept_same (laws_of g) same c.pieces.invariant.kept)),
      (c.in-Failed.ensures.failed refl).0 ∙ ap (λ (n : ℕ). n + 1) c.pieces.invariant.reads,
    )

pub returns-in-Ended-clause-answers : goal.returns-in-Ended-clause-answers
returns-in-Ended-clause-answers g c =
    let same = c.in-Wants.ensures.steps.2 in
    let wrote = c.in_ok-write-in-Wants.ensures in
    let ended = c.in-Ended.ensures.ended refl in
    let all = c.is_complete.ensures.0 c.if-is_complete.true in
    has_all (laws_of g) _ _ wrote.none (sym ended.1 ∙ all.0, all.1)
    (omega (arith, c.pieces.invariant.turns, c.if-left-eq0.false), ended.0)
    (kept_written (laws_of g) (FollowsRun c.write-in-Wants.new.self None) wrote.written
    wrote.none (wrote.follows None)
    (kept_same (laws_of g) same c.pieces.invariant.kept))

pub returns-in-Ended-2-clause-answers : goal.returns-in-Ended-2-clause-answers
returns-in-Ended-2-clause-answers g c =
    let same = c.in-Wants.ensures.steps.2 in
    let wrote = c.in_ok-write-in-Wants.ensures in
    let ended = c.in-Ended.ensures.ended refl in
    let wants = subst (λ (bs : List ℕ). g.F.RecordFormat.wants c.pieces.format bs) c.bytes.ensures
    c.in-Wants.ensures.steps.0 in
    has_all (laws_of g) _ _ wrote.none (
      rw same wants,
      λ all. false≢true (sym c.if-is_complete.false ∙ c.is_complete.ensures.1
          (ended.1 ∙ all.0, all.1)),
    ) ended.0
    (kept_written (laws_of g) (FollowsRun c.write-in-Wants.new.self None) wrote.written
    wrote.none (wrote.follows None)
    (kept_same (laws_of g) same c.pieces.invariant.kept))

-- what every call of a run leaves as it is
pub returns-in-Err-clause-same : goal.returns-in-Err-clause-same
returns-in-Err-clause-same g c =
    same_then c.args.venues.now c.take_timed.new.self c.stop_at.new.venues
    (same_then c.args.venues.now c.pieces.venues c.take_timed.new.self c.pieces.invariant.same
    c.in-Err.ensures.same) c.stop_at.ensures.same

pub returns-in_err-write-in-Bad-clause-same : goal.returns-in_err-write-in-Bad-clause-same
returns-in_err-write-in-Bad-clause-same g c =
    same_then c.args.venues.now c.pieces.venues c.write.new.self c.pieces.invariant.same
    c.in_err-write-in-Bad.ensures.same

pub returns-in-Bad-clause-same : goal.returns-in-Bad-clause-same
returns-in-Bad-clause-same g c =
    same_then c.args.venues.now c.pieces.venues c.write.new.self c.pieces.invariant.same
    c.in_ok-write-in-Bad.ensures.same

pub returns-in_err-write-in-Wants-clause-same : goal.returns-in_err-write-in-Wants-clause-same
returns-in_err-write-in-Wants-clause-same g c =
    same_then c.args.venues.now c.pieces.venues c.write-in-Wants.new.self c.pieces.invariant.same
    c.in_err-write-in-Wants.ensures.same

pub returns-then-left-eq0-clause-same : goal.returns-then-left-eq0-clause-same
returns-then-left-eq0-clause-same g c =
    same_then c.args.venues.now c.pieces.venues c.write-in-Wants.new.self c.pieces.invariant.same
    c.in_ok-write-in-Wants.ensures.same

pub returns-in-Failed-clause-same : goal.returns-in-Failed-clause-same
returns-in-Failed-clause-same g c =
    same_then c.args.venues.now c.pieces.venues c.write-in-Wants.new.self c.pieces.invariant.same
    c.in_ok-write-in-Wants.ensures.same

pub returns-in-Ended-clause-same : goal.returns-in-Ended-clause-same
returns-in-Ended-clause-same g c =
    same_then c.args.venues.now c.pieces.venues c.write-in-Wants.new.self c.pieces.invariant.same
    c.in_ok-write-in-Wants.ensures.same

pub returns-in-Ended-2-clause-same : goal.returns-in-Ended-2-clause-same
returns-in-Ended-2-clause-same g c =
    same_then c.args.venues.now c.pieces.venues c.write-in-Wants.new.self c.pieces.invariant.same
    c.in_ok-write-in-Wants.ensures.same
