use Rattle.std.proofs.Common.{◌≡◌, false, ◌∷◌, ◌++◌, [], Ok, ◌∙◌, ap, arith, refl, subst, sym}
use Rattle.line_arbiter.specs.declared.outcome.Outcome.{Outcome}
use Rattle.line_arbiter.specs.Packets.{arrival_of}
use Rattle.line_arbiter.specs.Fits.{Fits}
use Rattle.line_arbiter.specs.InOrder.{IsNextPacket, outcome_of_next}
use Rattle.line_arbiter.specs.Outcomes.{IsOutcome}
use Rattle.venue_normaliser.specs.Inside.{BringsPacket}
use Rattle.venue_normaliser.specs.States.{FitsOpened, NormaliserState}
use Rattle.venue_normaliser.proofs.Whole.{packet_any, packet_next}
use Rattle.venue_normaliser.proofs.normaliser.VenueNormaliser.take_packet.Goals as goal

pub returns-clause-brings : goal.returns-clause-brings
returns-clause-brings c = λ O P fits. packet_any _ _ _ O P _ _ _ _ fits (c.take_any.ensures.outcome
    P
    fits.lines) (c.take_any.ensures.fits P fits.lines) c.take_any.ensures.lines.sent
    c.take_any.ensures.taken c.take_any.ensures.others c.take_any.ensures.count
    c.take_any.ensures.window c.take_any.ensures.kept refl

pub returns-then-is_next-clause-brings : goal.returns-then-is_next-clause-brings
returns-then-is_next-clause-brings c = λ O P fits.
    let g = subst (λ (s : NormaliserState). FitsOpened s O P) (sym c.self.view_is) fits in
    let going : c.self.inside.has_given_up ≡ false = grind (arith, c.if-not-self.true) in
    let next = subst (λ (s : NormaliserState). IsNextPacket s.lines.session s.lines.window
    s.lines.sent P c.args.packet.now) c.self.view_is (c.if-is_next.ensures.exact P g.lines) in
    let outcome = subst (λ (s : NormaliserState). IsOutcome s.lines.session s.lines.window
    s.lines.sent P c.args.packet.now (Ok (outcome_of_next c.args.packet.now))) c.self.view_is
    (c.if-is_next.ensures.brings P c.args.line g.lines refl).answer in
    let is = c.in_ok-outcome.ensures.answer in
    subst (λ (o : Outcome). BringsPacket c.args.line c.args.packet.now (Ok o) P c.args.self.now
    c.take_next.new.self c.args.out.now.items c.take_next.new.out.items) (sym is)
    (packet_next c.args.line c.args.packet.now O P c.args.self.now c.take_next.new.self _ _ fits
    (ap (λ (s : NormaliserState). s.has_given_up) (sym c.self.view_is) ∙ going)
    c.is_next.ensures.content next outcome
    (subst (λ (o : Outcome). Fits c.take_next.new.self.lines
    (P ++ arrival_of c.args.line c.args.packet.now (Ok o) ∷ [])) is
    (c.in_ok-outcome.ensures.fits P fits.lines))
    c.in_ok-outcome.ensures.sent c.in_ok-outcome.ensures.kept c.in_ok-outcome.ensures.puts)
