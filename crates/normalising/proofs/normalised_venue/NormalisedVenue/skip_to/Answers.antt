use Rattle.text_out.specs.Members.{writing_of}
use Rattle.std.proofs.Common.{Bool, true, false, refl, sym, subst}
use Rattle.std.specs.Prelude.{Err, Ok}
use Rattle.std.proofs.lemmas.Result.{err_from_is_err_and}
use Rattle.capture_records.specs.Capture.{skip_record}
use Rattle.venue_normaliser.specs.States.{NormaliserState}
use Rattle.normalising.specs.Keeping.{SkippedWhere}
use Rattle.normalising.specs.Normalised.{inputs_of}
use Rattle.normalising.proofs.Venue.{given_one, given_row, given_takes, no_skip, skip_at, skip_given, skipped_here}
use Rattle.normalising.proofs.normalised_venue.NormalisedVenue.skip_to.Goals as goal

pub returns-in_err-skip_to-clause-skips : goal.returns-in_err-skip_to-clause-skips
returns-in_err-skip_to-clause-skips g c =
    let p = err_from_is_err_and c.from_residual.result c.from_residual.ensures.1 in
    rw (p.1, p.2) (λ feed place h follows form_is. (refl, refl))

pub returns-in-Err-clause-skips : goal.returns-in-Err-clause-skips
returns-in-Err-clause-skips g c = λ feed place h follows form_is.
    no_skip (writing_of g.W.TextOut)
    g.met.W.TextOut.adds_none feed c.args.time place c.args.number h c.args.self.now
    _ _ c.args.writer.now c.args.output.now.page.page false follows
    (rw c.in-Err.is at (c.in_ok-skip_to.ensures.answer h.opening (inputs_of h) follows.fits))
    (rw c.in-Err.is at c.in_ok-skip_to.ensures.refused).0
    (rw c.in-Err.is at c.in_ok-skip_to.ensures.refused).1

pub returns-in_err-write_ready-in-Ok-clause-skips :
    goal.returns-in_err-write_ready-in-Ok-clause-skips
returns-in_err-write_ready-in-Ok-clause-skips g c =
    let p = err_from_is_err_and c.from_residual-in_err-write_ready-in-Ok.result
    c.from_residual-in_err-write_ready-in-Ok.ensures.1 in
    rw (p.1, p.2) (λ feed place h follows form_is.
    let said = c.in_ok-skip_to.ensures in
    let w = skip_given feed place c.args.output.now.page.form h c.args.self.now
    c.skip_to.new.self c.write_ready.new.self c.args.number c.skip_to.new.out.items follows
    form_is said.kept.0 said.kept.1 c.in_err-write_ready-in-Ok.ensures.same
    (rw c.in-Ok.is at (said.fits h.opening _ follows.fits))
    (rw c.in-Ok.is at (said.output h.opening _ follows.fits)) in
    given_takes w c.args.time {A = Bool}
    (writing_of g.W.TextOut)
    (skip_record place c.args.number) c.args.writer.now c.write_ready.new.writer
    c.args.output.now.page.page c.write_ready.new.output.page.page
    (skip_at feed c.args.time place c.args.number h c.args.self.now _ follows
    (rw c.in-Ok.is at (said.answer h.opening _ follows.fits)))
    (Err c.in_err-write_ready-in-Ok.field-0.0) tt
    (c.in_err-write_ready-in-Ok.ensures.stopped _ _ (given_one w) (given_row w)) tt)

pub returns-in_ok-write_ready-in-Ok-clause-skips : goal.returns-in_ok-write_ready-in-Ok-clause-skips
returns-in_ok-write_ready-in-Ok-clause-skips g c = λ feed place h follows form_is.
    let said = c.in_ok-skip_to.ensures in
    let w = skip_given feed place c.args.output.now.page.form h c.args.self.now
    c.skip_to.new.self c.write_ready.new.self c.args.number c.skip_to.new.out.items follows
    form_is said.kept.0 said.kept.1 c.in_ok-write_ready-in-Ok.ensures.same
    (rw c.in-Ok.is at (said.fits h.opening _ follows.fits))
    (rw c.in-Ok.is at (said.output h.opening _ follows.fits)) in
    given_takes w c.args.time {A = Bool}
    (writing_of g.W.TextOut)
    (skip_record place c.args.number) c.args.writer.now c.write_ready.new.writer
    c.args.output.now.page.page c.write_ready.new.output.page.page
    (skip_at feed c.args.time place c.args.number h c.args.self.now _ follows
    (rw c.in-Ok.is at (said.answer h.opening _ follows.fits)))
    (Ok true) (c.in_ok-write_ready-in-Ok.ensures.put _ _ (given_one w) (given_row w)) tt
    c.in_ok-write_ready-in-Ok.ensures.written

pub returns-in-Err-clause-given_up : goal.returns-in-Err-clause-given_up
returns-in-Err-clause-given_up g c = λ opening packets fits.
    (rw c.in-Err.is at c.in_ok-skip_to.ensures.refused).0

pub returns-in_ok-write_ready-in-Ok-clause-given_up :
    goal.returns-in_ok-write_ready-in-Ok-clause-given_up
returns-in_ok-write_ready-in-Ok-clause-given_up g c = λ opening packets fits.
    let said = c.in_ok-skip_to.ensures in
    let may = (rw c.in-Ok.is at (said.answer opening packets fits)).1 in
    let after = rw c.in-Ok.is at (said.fits opening packets fits) in
    subst (λ (s : NormaliserState). SkippedWhere packets c.args.number c.args.self.now.normaliser s
    true) (sym c.in_ok-write_ready-in-Ok.ensures.same)
    (skipped_here opening packets c.args.number _ _ fits after may)
