use Rattle.text_out.specs.Members.{writing_of}
use Rattle.std.proofs.Common.{refl, Ok, Err}
use Rattle.std.proofs.lemmas.Result.{err_from_is_err_and}
use Rattle.capture_records.specs.Capture.{record_of}
use Rattle.capture_records.specs.Formats.{timed_record}
use Rattle.normalising.proofs.Venues.{stop_first, takes_then, timed_taken, too_noted}
use Rattle.normalising.proofs.normalised_venues.NormalisedVenues.take_timed.Goals as goal

pub returns-in_err-give_up_overdue-clause-takes : goal.returns-in_err-give_up_overdue-clause-takes
returns-in_err-give_up_overdue-clause-takes g c = λ at f.
    let p = err_from_is_err_and c.from_residual.result c.from_residual.ensures.1 in
    let r = timed_record (record_of c.args.record.now) c.args.time in
    rw (p.1, p.2) (timed_taken {A = Unit {0}}
    (writing_of g.W.TextOut)
    r c.args.self.now _ c.give_up_overdue.new.self c.args.writer.now c.give_up_overdue.new.writer
    (Err c.in_err-give_up_overdue.field-0.0) refl refl refl c.latest_after-self.ensures refl
    (stop_first (Unit {0}) (Unit {0})
    (writing_of g.W.TextOut)
    r _ c.give_up_overdue.new.self c.args.writer.now c.give_up_overdue.new.writer
    c.in_err-give_up_overdue.field-0.0
    (c.in_err-give_up_overdue.ensures.puts_in r refl)) at f)

pub returns-in_err-take-clause-takes : goal.returns-in_err-take-clause-takes
returns-in_err-take-clause-takes g c = λ at f.
    let p = err_from_is_err_and c.from_residual-in_err-take.result
    c.from_residual-in_err-take.ensures.1 in
    let r = timed_record (record_of c.args.record.now) c.args.time in
    rw (p.1, p.2) (timed_taken {A = Unit {0}}
    (writing_of g.W.TextOut) r c.args.self.now _ c.take.new.self c.args.writer.now c.take.new.writer
    (Err c.in_err-take.field-0.0) refl refl refl c.latest_after-self.ensures refl
    (takes_then (writing_of g.W.TextOut)
    g.met.W.TextOut.adds_more r _ c.give_up_overdue.new.self c.take.new.self
    c.args.writer.now c.give_up_overdue.new.writer c.take.new.writer
    c.in_ok-give_up_overdue.ensures.same {B = Unit {0}} (tt {0}) (Err c.in_err-take.field-0.0)
    (c.in_ok-give_up_overdue.ensures.puts_in r refl)
    (c.in_err-take.ensures.takes r refl)) at f)

pub returns-in-Some-clause-takes : goal.returns-in-Some-clause-takes
returns-in-Some-clause-takes g c = λ at f.
    let r = timed_record (record_of c.args.record.now) c.args.time in
    timed_taken (writing_of g.W.TextOut)
    r c.args.self.now _ c.note_gap.new.self c.args.writer.now c.take.new.writer
    (Ok (tt {0})) refl refl refl c.latest_after-self.ensures refl
    (too_noted (writing_of g.W.TextOut)
    r _ c.take.new.self c.note_gap.new.self c.args.writer.now c.take.new.writer (tt {0}) (tt {0})
    c.note_gap.ensures
    (takes_then (writing_of g.W.TextOut)
    g.met.W.TextOut.adds_more r _ c.give_up_overdue.new.self c.take.new.self
    c.args.writer.now c.give_up_overdue.new.writer c.take.new.writer
    c.in_ok-give_up_overdue.ensures.same (tt {0}) (Ok (tt {0}))
    (c.in_ok-give_up_overdue.ensures.puts_in r refl)
    (c.in_ok-take.ensures.takes r refl))) at f

pub returns-in_default-clause-takes : goal.returns-in_default-clause-takes
returns-in_default-clause-takes g c = λ at f.
    let r = timed_record (record_of c.args.record.now) c.args.time in
    timed_taken (writing_of g.W.TextOut)
    r c.args.self.now _ c.take.new.self c.args.writer.now c.take.new.writer
    (Ok (tt {0})) refl refl refl c.latest_after-self.ensures refl
    (takes_then (writing_of g.W.TextOut)
    g.met.W.TextOut.adds_more r _ c.give_up_overdue.new.self c.take.new.self
    c.args.writer.now c.give_up_overdue.new.writer c.take.new.writer
    c.in_ok-give_up_overdue.ensures.same (tt {0}) (Ok (tt {0}))
    (c.in_ok-give_up_overdue.ensures.puts_in r refl)
    (c.in_ok-take.ensures.takes r refl)) at f
