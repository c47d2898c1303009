use Rattle.std.proofs.Common.{◌≡◌, ℕ, ◌+◌, ◌++◌, ◌∷◌, [], ◌∙◌, ap, subst, sym, arith}
use Rattle.feed_types.specs.Sessions.{end_item}
use Rattle.line_arbiter.specs.declared.arbiter.ArbiterStatus.{ArbiterStatus}
use Rattle.line_arbiter.specs.Packets.{Skip}
use Rattle.line_arbiter.specs.Streams.{front_of}
use Rattle.line_arbiter.specs.Fits.{Fits}
use Rattle.line_arbiter.specs.States.{State}
use Rattle.venue_normaliser.specs.States.{FitsOpened, NormaliserState, PutsOutFrom}
use Rattle.venue_normaliser.proofs.Whole.{skips_fit, skips_output}
use Rattle.venue_normaliser.proofs.normaliser.VenueNormaliser.skip_to.Goals as goal

pub returns-clause-fits : goal.returns-clause-fits
returns-clause-fits c = λ O P fits.
    let g = subst (λ (s : NormaliserState). FitsOpened s O P) (sym c.self.view_is) fits in
    let same = c.self-2.view_is ∙ c.end_output.ensures.kept in
    let lines = subst (λ (s : State). Fits s (P ++ Skip c.args.number ∷ []))
    (sym (ap (λ (s : NormaliserState). s.lines) same)) (c.in_default.ensures.fits P g.lines) in
    let both = c.drop_ready.ensures.fits (P ++ Skip c.args.number ∷ []) lines in
    let may = (c.in_default.ensures.answer P g.lines).1 in
    skips_fit O P c.args.number _ _ g may both.0 both.1 (ap (λ (s : NormaliserState).
    s.has_given_up) same)

pub returns-clause-output : goal.returns-clause-output
returns-clause-output c = λ O P fits.
    let g = subst (λ (s : NormaliserState). FitsOpened s O P) (sym c.self.view_is) fits in
    let may = (c.in_default.ensures.answer P g.lines).1 in
    let front = ap (λ (s : ArbiterStatus). s.front) (c.status.ensures.packets P g.lines) in
    let small = c.ranges.number.fits in
    let past = may.past in
    let sum = c.saturating_add-first_missing.ensures in
    let first : c.saturating_add-first_missing.result ≡ front_of P + 1 = omega arith in
    subst (λ (s : NormaliserState). PutsOutFrom s.book.keys O P (P ++ Skip c.args.number ∷ [])
    c.args.out.now.items c.end_output.new.out.items) c.self.view_is
    (skips_output O P c.args.number _ c.args.out.now.items c.end_output.new.out.items g may
    c.in_ok-end_output.ensures.over
    (λ going. c.in_ok-end_output.ensures.ended going
    ∙ ap (λ (n : ℕ). c.args.out.now.items ++ end_item n ∷ []) first))
