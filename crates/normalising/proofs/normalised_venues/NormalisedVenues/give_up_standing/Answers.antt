use Rattle.text_out.specs.Members.{writing_of}
use Rattle.std.proofs.Common.{Ok, Err}
use Rattle.std.proofs.lemmas.Result.{err_from_is_err_and}
use Rattle.capture_records.specs.Capture.{skip_record}
use Rattle.normalising.proofs.Venues.{first_none, first_noted, put_in_first}
use Rattle.normalising.proofs.normalised_venues.NormalisedVenues.give_up_standing.Goals as goal

pub returns-in_default-clause-puts_in : goal.returns-in_default-clause-puts_in
returns-in_default-clause-puts_in g c = λ r may. first_none
    (writing_of g.W.TextOut) g.met.W.TextOut.adds_none r c.args.self.now c.args.writer.now (tt {0})

pub returns-in_err-give_up-clause-puts_in : goal.returns-in_err-give_up-clause-puts_in
returns-in_err-give_up-clause-puts_in g c = λ r may.
    let p = err_from_is_err_and c.from_residual.result c.from_residual.ensures.1 in
    rw (p.1, p.2) (put_in_first {A = Unit {0}}
    (writing_of g.W.TextOut)
    r (skip_record c.args.venue c.in-Some.number) c.args.self.now c.give_up.new.self
    c.args.writer.now c.give_up.new.writer (Err c.in_err-give_up.field-0.0) may
    c.in_err-give_up.ensures.takes)

pub returns-clause-puts_in : goal.returns-clause-puts_in
returns-clause-puts_in g c = λ r may. first_noted
    (writing_of g.W.TextOut)
    r c.args.self.now c.give_up.new.self c.note_gap.new.self c.args.writer.now
    c.give_up.new.writer (tt {0}) (tt {0}) c.note_gap.ensures
    (put_in_first
    (writing_of g.W.TextOut)
    r (skip_record c.args.venue c.in-Some.number) c.args.self.now c.give_up.new.self
    c.args.writer.now c.give_up.new.writer (Ok (tt {0})) may c.in_ok-give_up.ensures.takes)
