use Rattle.std.proofs.Common.{arith, refl, sym, ap, subst, ℕ, List, ◌+◌, ◌∙◌, length-drop, Ok, Err}
use Rattle.std.proofs.lemmas.Bool.{false≢true}
use Rattle.std.proofs.lemmas.Result.{err_from_is_err_and}
use Rattle.capture_records.specs.Capture.{record_of}
use Rattle.capture_records.specs.Formats.{TimedRecord, timed_record}
use Rattle.feed_text.specs.ReplayStates.{state_of_replay}
use Rattle.feed_text.proofs.Taking.{next_taken}
use Rattle.feed_text.proofs.Tales.{SinkLaws, laws_by}
use Rattle.feed_text.proofs.ReadRecords.{InLaws}
use Rattle.feed_text.proofs.Runs.{ran_none, ran_step, ran_passed, ran_read, ran_shown, ran_kept}
use Rattle.feed_text.proofs.RunEnds.{ran_by, ran_to_end, answers_bad, answers_stopped, answers_unshown}
use Rattle.feed_text.proofs.run.run.Given.{Over}
use Rattle.feed_text.proofs.run.run.Goals as goal

in_laws : (g : Over)
    → InLaws (record {
      gives = g.R.CaptureIn.gives;
      ends = g.R.CaptureIn.ends;
      failures =
          g.R.CaptureIn.failures;
      fails = g.R.CaptureIn.fails;
    })
    (record {
      reads = g.F.RecordFormat.reads;
      wants = g.F.RecordFormat.wants;
      is_bad =
          g.F.RecordFormat.is_bad;
      is_whole = g.F.RecordFormat.is_whole;
    })
in_laws g = record {
  gives_none = g.met.R.CaptureIn.gives_none;
  gives_more = g.met.R.CaptureIn.gives_more;
  reads_none = g.met.F.RecordFormat.reads_none;
  reads_more = g.met.F.RecordFormat.reads_more;
  reads_longer = g.met.F.RecordFormat.reads_longer;
}

laws_of : (g : Over)
    → SinkLaws (record { takes = g.K.EventSink.takes; fails = g.K.EventSink.fails })
laws_of g = laws_by g.met.K.EventSink.takes_none g.met.K.EventSink.takes_more
    g.met.K.EventSink.fails_after g.met.K.EventSink.fails_longer

pub pieces-init : goal.pieces-init
pieces-init g c = record {
  ran = ran_none (in_laws g) (laws_of g) c.args.config.now c.args.output.now.time _ _ _ _
      c.new-kept.result (omega arith) c.new-kept.ensures c.requires.starts;
  turns = omega arith;
  room = rw c.requires.starts.unread (omega arith);
  reads = refl;
  of_venues = c.requires.of_venues;
}

pub returns-in-Err : goal.returns-in-Err
returns-in-Err g c =
    let r : TimedRecord = timed_record (record_of c.in-Came.record) c.in-Came.time in
    answers_stopped (in_laws g) (laws_of g) c.args.config.now g.K.EventSink.is_shown r c.in-Err.stop
    c.stopped.result c.stopped.new.sink
    (rw (← c.pieces.invariant.of_venues) c.in-Came.ensures.came) c.bytes.ensures
    c.in-Came.ensures.steps c.in-Err.ensures.taken c.stopped.ensures c.pieces.invariant.ran

pub returns-in-Err-take : goal.returns-in-Err-take
returns-in-Err-take g c =
    let r : TimedRecord = timed_record (record_of c.in-Came.record) c.in-Came.time in
    let gaps = c.in_default.ensures.kept.gaps ∙ c.pieces.invariant.ran.has.gaps in
    answers_stopped (in_laws g) (laws_of g) c.args.config.now g.K.EventSink.is_shown r
    c.in-Err-take.stop c.stopped-in-Err-take.result c.stopped-in-Err-take.new.sink
    (rw (← c.pieces.invariant.of_venues) c.in-Came.ensures.came) c.bytes.ensures
    c.in-Came.ensures.steps
    (λ at f k. next_taken (laws_of g) c.args.config.now r at c.follow_rule.new.venues
    c.take.new.self _ (state_of_replay c.follow_rule.new.output)
    (state_of_replay c.take.new.output) c.follow_rule.new.kept (Err c.in-Err-take.stop) gaps
    (c.in_default.ensures.taken at f k) c.in-Err-take.ensures)
    c.stopped-in-Err-take.ensures c.pieces.invariant.ran

pub pieces-preserved-in-Came : goal.pieces-preserved-in-Came
pieces-preserved-in-Came g c =
    let r : TimedRecord = timed_record (record_of c.in-Came.record) c.in-Came.time in
    let piece = c.in-Came.ensures.steps in
    let gaps = c.in_default.ensures.kept.gaps ∙ c.pieces.invariant.ran.has.gaps in
    record {
      ran = ran_step (in_laws g) (laws_of g) c.args.config.now r
          (rw (← c.pieces.invariant.of_venues) c.in-Came.ensures.came) c.bytes.ensures
          piece c.advance.ensures
          (record {
            gaps = c.in_default-take.ensures.gaps ∙ c.in_default.ensures.kept.gaps;
            count =
                c.in_default-take.ensures.count ∙ c.in_default.ensures.kept.count;
          })
          (λ at f k. next_taken (laws_of g) c.args.config.now r at c.follow_rule.new.venues
          c.take.new.self _ (state_of_replay c.follow_rule.new.output)
          (state_of_replay c.take.new.output) c.follow_rule.new.kept (Ok tt) gaps
          (c.in_default.ensures.taken at f k) c.in_default-take.ensures)
          c.pieces.invariant.ran;
      turns = c.pieces.invariant.turns;
      room = rw c.advance.ensures (omega (arith, c.pieces.invariant.room, length-drop {A = ℕ}));
      reads = c.pieces.invariant.reads;
      of_venues = g.met.F.RecordFormat.reads_venues _ _ _ _ _ piece.read
          ∙ c.pieces.invariant.of_venues;
    }

pub pieces-preserved-in-Passed : goal.pieces-preserved-in-Passed
pieces-preserved-in-Passed g c =
    let piece = c.in-Passed.ensures.steps in
    record {
      ran = ran_passed (in_laws g) (laws_of g) c.args.config.now c.bytes.ensures piece
          c.advance-in-Passed.ensures c.pieces.invariant.ran;
      turns = c.pieces.invariant.turns;
      room = rw c.advance-in-Passed.ensures
          (omega (arith, c.pieces.invariant.room, length-drop {A = ℕ}));
      reads = c.pieces.invariant.reads;
      of_venues = g.met.F.RecordFormat.reads_venues _ _ _ _ _ piece.read
          ∙ c.pieces.invariant.of_venues;
    }

pub returns-in-Bad : goal.returns-in-Bad
returns-in-Bad g c =
    let same = c.in-Bad.ensures.steps.1 in
    let bad = subst (λ (bs : List ℕ). g.F.RecordFormat.is_bad c.pieces.format bs c.in-Bad.fault)
    c.bytes.ensures c.in-Bad.ensures.steps.0 in
    answers_bad (in_laws g) (laws_of g) c.args.config.now g.K.EventSink.is_shown c.in-Bad.fault
    c.show_before.result c.show_before.new.sink c.show_before.ensures
    (rw same bad) (ran_kept (in_laws g) (laws_of g) c.args.config.now same c.pieces.invariant.ran)

pub returns-in_err-show-in-Wants : goal.returns-in_err-show-in-Wants
returns-in_err-show-in-Wants g c =
    let p = err_from_is_err_and c.from_residual.result c.from_residual.ensures.1 in
    rw p.1
    (answers_unshown (in_laws g) (laws_of g) c.args.config.now g.K.EventSink.is_shown p.0
    c.show.new.self p.2 c.in_err-show-in-Wants.ensures.failed
    (ran_kept (in_laws g) (laws_of g) c.args.config.now c.in-Wants.ensures.steps.2
    c.pieces.invariant.ran))

pub returns-then-turns-eq0 : goal.returns-then-turns-eq0
returns-then-turns-eq0 g c =
    let same = c.in-Wants.ensures.steps.2 in
    let wants = subst (λ (bs : List ℕ). g.F.RecordFormat.wants c.pieces.format bs) c.bytes.ensures
    c.in-Wants.ensures.steps.0 in
    ran_by (in_laws g) (laws_of g) c.args.config.now g.K.EventSink.is_shown _ _
    c.show.new.self (rw same wants)
    (omega (arith, c.if-turns-eq0.true), refl) c.in_ok-show-in-Wants.ensures.took
    c.in_ok-show-in-Wants.ensures.shown
    (ran_kept (in_laws g) (laws_of g) c.args.config.now same c.pieces.invariant.ran)

pub pieces-preserved : goal.pieces-preserved
pieces-preserved g c =
    let same = c.in-Wants.ensures.steps.2 in
    record {
      ran = ran_read (in_laws g) (laws_of g) c.args.config.now
          (omega (arith, c.pieces.invariant.turns, c.if-turns-eq0.false))
          (c.in-Went.ensures.went refl)
          (ran_shown (in_laws g) (laws_of g) c.args.config.now c.show.new.self
          c.in_ok-show-in-Wants.ensures.took (ran_kept (in_laws g) (laws_of g) c.args.config.now
          same c.pieces.invariant.ran));
      turns = omega (arith, c.pieces.invariant.turns);
      room = c.in-Went.ensures.bound;
      reads = c.in-Went.ensures.kept (λ e. absurd cc) ∙ c.pieces.invariant.reads;
      of_venues = ap g.F.RecordFormat.venues same ∙ c.pieces.invariant.of_venues;
    }

pub returns-in-Failed : goal.returns-in-Failed
returns-in-Failed g c =
    let same = c.in-Wants.ensures.steps.2 in
    let wants = subst (λ (bs : List ℕ). g.F.RecordFormat.wants c.pieces.format bs) c.bytes.ensures
    c.in-Wants.ensures.steps.0 in (
      ran_by (in_laws g) (laws_of g) c.args.config.now g.K.EventSink.is_shown _ _
          c.show.new.self (rw same wants)
          (c.in-Failed.ensures.fails refl) c.in_ok-show-in-Wants.ensures.took
          c.in_ok-show-in-Wants.ensures.shown
          (ran_kept (in_laws g) (laws_of g) c.args.config.now same c.pieces.invariant.ran),
      (c.in-Failed.ensures.failed refl).0 ∙ ap (λ (n : ℕ). n + 1) c.pieces.invariant.reads,
    )

pub returns-in-Ended : goal.returns-in-Ended
returns-in-Ended g c =
    let same = c.in-Wants.ensures.steps.2 in
    let ended = c.in-Ended.ensures.ended refl in
    let all = c.is_complete.ensures.0 c.if-is_complete.true in
    ran_to_end (in_laws g) (laws_of g) c.args.config.now (sym ended.1 ∙ all.0) all.1
    (omega (arith, c.pieces.invariant.turns, c.if-turns-eq0.false)) ended.0
    (ran_shown (in_laws g) (laws_of g) c.args.config.now c.show.new.self
    c.in_ok-show-in-Wants.ensures.took (ran_kept (in_laws g) (laws_of g) c.args.config.now same
    c.pieces.invariant.ran))

pub returns-in-Ended-2 : goal.returns-in-Ended-2
returns-in-Ended-2 g c =
    let same = c.in-Wants.ensures.steps.2 in
    let ended = c.in-Ended.ensures.ended refl in
    let wants = subst (λ (bs : List ℕ). g.F.RecordFormat.wants c.pieces.format bs) c.bytes.ensures
    c.in-Wants.ensures.steps.0 in
    ran_by (in_laws g) (laws_of g) c.args.config.now g.K.EventSink.is_shown _ _ c.show.new.self (
      rw same wants,
      λ all. false≢true (sym c.if-is_complete.false ∙ c.is_complete.ensures.1
          (ended.1 ∙ all.0, all.1)),
    )
    ended.0 c.in_ok-show-in-Wants.ensures.took c.in_ok-show-in-Wants.ensures.shown
    (ran_kept (in_laws g) (laws_of g) c.args.config.now same c.pieces.invariant.ran)
