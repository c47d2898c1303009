use Rattle.std.proofs.Common.{◌∙◌, ap, sym}
use Rattle.venue_normaliser.specs.Ends.{read_as}
use Rattle.venue_normaliser.specs.States.{NormaliserState}
use Rattle.venue_normaliser.proofs.normaliser.VenueNormaliser.take.Goals as goal

pub returns-in-Some-clause-outcome : goal.returns-in-Some-clause-outcome
returns-in-Some-clause-outcome c =
    let same = c.in-Some.ensures.moved
    ∙ ap (λ (s : NormaliserState). read_as s.end_number c.args.packet.now) c.self.view_is in
    rw (← same) c.take_read.ensures.outcome

pub returns-in-Some-clause-fits : goal.returns-in-Some-clause-fits
returns-in-Some-clause-fits c =
    let same = c.in-Some.ensures.moved
    ∙ ap (λ (s : NormaliserState). read_as s.end_number c.args.packet.now) c.self.view_is in
    rw (← same) c.take_read.ensures.fits

pub returns-in-Some-clause-output : goal.returns-in-Some-clause-output
returns-in-Some-clause-output c =
    let same = c.in-Some.ensures.moved
    ∙ ap (λ (s : NormaliserState). read_as s.end_number c.args.packet.now) c.self.view_is in
    rw (← same) c.take_read.ensures.output

pub returns-in-None-clause-outcome : goal.returns-in-None-clause-outcome
returns-in-None-clause-outcome c =
    let same = ap (λ (s : NormaliserState). read_as s.end_number c.args.packet.now)
    (sym c.self.view_is) ∙ c.in-None.ensures.same in
    rw same c.take_read-in-None.ensures.outcome

pub returns-in-None-clause-fits : goal.returns-in-None-clause-fits
returns-in-None-clause-fits c =
    let same = ap (λ (s : NormaliserState). read_as s.end_number c.args.packet.now)
    (sym c.self.view_is) ∙ c.in-None.ensures.same in
    rw same c.take_read-in-None.ensures.fits

pub returns-in-None-clause-output : goal.returns-in-None-clause-output
returns-in-None-clause-output c =
    let same = ap (λ (s : NormaliserState). read_as s.end_number c.args.packet.now)
    (sym c.self.view_is) ∙ c.in-None.ensures.same in
    rw same c.take_read-in-None.ensures.output
