use Rattle.text_out.specs.Members.{writing_of}
use Rattle.std.proofs.Common.{true, sym, subst, Ok, Err}
use Rattle.std.proofs.lemmas.Result.{err_from_is_err_and}
use Rattle.capture_records.specs.Capture.{renewal_record}
use Rattle.normalising.specs.Normalised.{IsPacketOfName}
use Rattle.normalising.proofs.Venues.{answer_first, first_none, first_noted, put_in_first}
use Rattle.normalising.proofs.normalised_venues.NormalisedVenues.follow.Goals as goal

pub returns-then-is_same_name-clause-puts_in : goal.returns-then-is_same_name-clause-puts_in
returns-then-is_same_name-clause-puts_in g c = λ r is. first_none
    (writing_of g.W.TextOut) g.met.W.TextOut.adds_none r c.args.self.now c.args.writer.now (tt {0})

pub returns-in_default-clause-puts_in : goal.returns-in_default-clause-puts_in
returns-in_default-clause-puts_in g c = λ r is. first_none
    (writing_of g.W.TextOut) g.met.W.TextOut.adds_none r c.args.self.now c.args.writer.now (tt {0})

pub returns-in_err-renew-clause-puts_in : goal.returns-in_err-renew-clause-puts_in
returns-in_err-renew-clause-puts_in g c = λ r is.
    let p = err_from_is_err_and c.from_residual.result c.from_residual.ensures.1 in
    rw (p.1, p.2) (put_in_first {A = Unit {0}}
    (writing_of g.W.TextOut)
    r (renewal_record c.args.venue c.session-session.result) c.args.self.now c.renew.new.self
    c.args.writer.now c.renew.new.writer (Err c.in_err-renew.field-0.0) (
      c.in-Some.ensures,
      subst (λ name. IsPacketOfName r.what c.args.venue name)
          (sym c.session-session.ensures.value) is,
    ) c.in_err-renew.ensures.takes)

pub returns-else-branch-clause-puts_in : goal.returns-else-branch-clause-puts_in
returns-else-branch-clause-puts_in g c = λ r is. answer_first
    (writing_of g.W.TextOut)
    r c.args.self.now c.renew.new.self c.args.writer.now c.renew.new.writer true (tt {0})
    (put_in_first
    (writing_of g.W.TextOut)
    r (renewal_record c.args.venue c.session-session.result) c.args.self.now c.renew.new.self
    c.args.writer.now c.renew.new.writer (Ok true) (
      c.in-Some.ensures,
      subst (λ name. IsPacketOfName r.what c.args.venue name)
          (sym c.session-session.ensures.value) is,
    )
    c.in_ok-renew.ensures.takes)

pub returns-then-branch-clause-puts_in : goal.returns-then-branch-clause-puts_in
returns-then-branch-clause-puts_in g c = λ r is. first_noted
    (writing_of g.W.TextOut)
    r c.args.self.now c.renew.new.self c.note_begun.new.self c.args.writer.now
    c.renew.new.writer true (tt {0}) c.note_begun.ensures
    (put_in_first
    (writing_of g.W.TextOut)
    r (renewal_record c.args.venue c.session-session.result) c.args.self.now c.renew.new.self
    c.args.writer.now c.renew.new.writer (Ok true) (
      c.in-Some.ensures,
      subst (λ name. IsPacketOfName r.what c.args.venue name)
          (sym c.session-session.ensures.value) is,
    )
    c.in_ok-renew.ensures.takes)
