use Rattle.text_out.specs.Members.{writing_of}
use Rattle.std.proofs.Common.{Bool, true, ◌∙◌, ap, Ok, Err}
use Rattle.std.proofs.lemmas.Result.{err_from_is_err_and}
use Rattle.capture_records.specs.Capture.{record_of, renewal_record, self_help_record, skip_record}
use Rattle.normalising.proofs.Venues.{next_answer, next_stop, takes_record}
use Rattle.normalising.proofs.normalised_venues.NormalisedVenues.take.Goals as goal

pub returns-in-Datagram-clause-takes : goal.returns-in-Datagram-clause-takes
returns-in-Datagram-clause-takes g c = λ r is.
    c.take_datagram.ensures.takes r (is ∙ ap record_of c.in-Datagram.is)

pub returns-in_err-renew-in-Renewal-clause-takes : goal.returns-in_err-renew-in-Renewal-clause-takes
returns-in_err-renew-in-Renewal-clause-takes g c = λ r is.
    let p = err_from_is_err_and c.from_residual.result c.from_residual.ensures.1 in
    rw (p.1, p.2) (takes_record {A = Unit {0}}
    (writing_of g.W.TextOut)
    r (renewal_record c.in-Renewal.venue c.in-Renewal.session) c.args.self.now c.renew.new.self
    c.args.writer.now c.renew.new.writer (Err c.in_err-renew-in-Renewal.field-0.0)
    (is ∙ ap record_of c.in-Renewal.is)
    (next_stop Bool (Unit {0}) (writing_of g.W.TextOut)
    (renewal_record c.in-Renewal.venue c.in-Renewal.session) c.args.self.now c.renew.new.self
    c.args.writer.now c.renew.new.writer c.in_err-renew-in-Renewal.field-0.0
    c.in_err-renew-in-Renewal.ensures.takes))

pub returns-in_ok-renew-in-Renewal-clause-takes : goal.returns-in_ok-renew-in-Renewal-clause-takes
returns-in_ok-renew-in-Renewal-clause-takes g c = λ r is. takes_record
    (writing_of g.W.TextOut)
    r (renewal_record c.in-Renewal.venue c.in-Renewal.session) c.args.self.now c.renew.new.self
    c.args.writer.now c.renew.new.writer (Ok (tt {0})) (is ∙ ap record_of c.in-Renewal.is)
    (next_answer (writing_of g.W.TextOut)
    (renewal_record c.in-Renewal.venue c.in-Renewal.session) c.args.self.now c.renew.new.self
    c.args.writer.now c.renew.new.writer true (tt {0}) c.in_ok-renew-in-Renewal.ensures.takes)

pub returns-in-Skip-clause-takes : goal.returns-in-Skip-clause-takes
returns-in-Skip-clause-takes g c = λ r is. takes_record
    (writing_of g.W.TextOut)
    r (skip_record c.in-Skip.venue c.in-Skip.number) c.args.self.now c.give_up.new.self
    c.args.writer.now c.give_up.new.writer c.give_up.result (is ∙ ap record_of c.in-Skip.is)
    c.give_up.ensures.takes

pub returns-in-SelfHelp-clause-takes : goal.returns-in-SelfHelp-clause-takes
returns-in-SelfHelp-clause-takes g c = λ r is. takes_record
    (writing_of g.W.TextOut)
    r (self_help_record c.in-SelfHelp.venue c.in-SelfHelp.on) c.args.self.now c.pass_on.new.self
    c.args.writer.now c.pass_on.new.writer c.pass_on.result (is ∙ ap record_of c.in-SelfHelp.is)
    c.pass_on.ensures.takes
