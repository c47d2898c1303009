use Rattle.text_out.specs.Members.{writing_of}
use Rattle.std.proofs.Common.{refl}
use Rattle.std.proofs.lemmas.Result.{err_from_is_err_and}
use Rattle.normalising.proofs.Venues.{passed_next, passing_failed}
use Rattle.normalising.proofs.normalised_venues.NormalisedVenues.pass_on.Goals as goal

pub returns-in_err-put_self_help-clause-takes : goal.returns-in_err-put_self_help-clause-takes
returns-in_err-put_self_help-clause-takes g c =
    let p = err_from_is_err_and c.from_residual.result c.from_residual.ensures.1 in
    rw (p.1, p.2) (passing_failed
    (writing_of g.W.TextOut)
    c.args.self.now c.args.self.now c.args.venue c.args.on c.args.writer.now
    c.put_self_help.new.writer c.in_err-put_self_help.field-0.0 c.requires refl refl refl refl refl
    c.in_err-put_self_help.ensures.part c.in_err-put_self_help.ensures.failed)

pub returns-clause-takes : goal.returns-clause-takes
returns-clause-takes g c = passed_next
    (writing_of g.W.TextOut)
    c.args.self.now _ c.args.venue c.args.on c.args.writer.now c.put_self_help.new.writer (tt {0})
    c.requires refl refl refl c.in_ok-put_self_help.ensures.form refl
    c.in_ok-put_self_help.ensures.taken
