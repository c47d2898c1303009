-- Where it is known which sessions the lines bring, no packet of one of them is refused but for
-- another session's, or as an end that is too early, once messages past it were given up.
use Rattle.std.proofs.Common.{◌≡◌, ℕ, ◌+◌, ◌<◌, List, length, Result, Err, refl, sym, subst, ◌∙◌, arith, inl, inr}
use Rattle.std.specs.Prelude.{◌⊎◌, IsOk}
use Rattle.std.proofs.lemmas.Bool.{false≢true}
use Rattle.feed_types.specs.Sessions.{Session, IsSessionAt}
use Rattle.mold_packet.specs.Content.{Content, IsContent}
use Rattle.mold_packet.specs.declared.packet.Kind.TheVariants as kinds
use Rattle.line_arbiter.specs.declared.outcome.Outcome.{Outcome}
use Rattle.line_arbiter.specs.declared.outcome.LineFault.{LineFault}
use Rattle.line_arbiter.specs.declared.outcome.LineFault.TheVariants.{OtherSession, EndTooEarly}
use Rattle.line_arbiter.specs.Outcomes.{IsOutcome}
use Rattle.line_arbiter.specs.States.{ordinal_of}
use Rattle.line_arbiter.specs.Packets.{first_of}
use Rattle.line_arbiter.specs.OfSession.{IsOfSession}
use Rattle.line_arbiter.specs.laws.OfSession.{taken_of_session}
use Rattle.line_arbiter.specs.laws.Accepting.{accepted_or_early}
use Rattle.line_arbiter.specs.laws.FitsHistory.{ordinal_is}
use Rattle.feed_types.specs.declared.genuine.Genuine.{Ghosts as Genuine}
use Rattle.feed_steps.specs.Premises.{BringExactly}
use Rattle.feed_steps.specs.Lanes.{FeedLanes}
use Rattle.venue_lines.specs.Cells.{CellState, VenueLockInvariant}
use Rattle.venue_lines.specs.Sections.{AcceptsTheirPacket, HasSkippedPast}
use Rattle.venue_lines.specs.laws.Given.{given_genuine}
use Rattle.venue_lines.proofs.Histories.{present_given}
use Rattle.venue_lines.proofs.FirstNumbers.{one_first}

module _ {S : Type 0} (premise : Genuine S) (lanes : FeedLanes) (c : CellState)
    (k : VenueLockInvariant premise lanes c) (p : Content) (answer : Result Outcome LineFault)
    (content : IsContent p)
    (o : IsOutcome c.arbiter.session c.arbiter.window c.arbiter.sent k.history.present.packets p
    answer) where
  -- the packet is of the present session
  here : (all : List Session) (ordinal : ℕ) (s : Session) → BringExactly premise c.arbiter.venue all
      → IsSessionAt all ordinal s → IsOfSession s p → p.session ≡ c.arbiter.session
      → IsOk answer ⊎ ((p.kind ≡ kinds.End) × (answer ≡ Err EndTooEarly)
      × (length s.items + 1 < first_of k.history.present.packets))
  here all ordinal s names at of same =
      let h = k.history in
      let n = 1 + length h.earlier in
      let venue = c.arbiter.venue in
      let named : premise.sessions venue n c.arbiter.session =
      subst (λ (x : ℕ). premise.sessions venue x c.arbiter.session) (ordinal_is h k.fits.history)
      k.named in
      let found = (names.named n c.arbiter.session).0 named in
      let same_name : s.name ≡ found.0.name = sym of.name ∙ same ∙ sym found.2 in
      let one : ordinal ≡ n = names.distinct ordinal n s found.0 at found.1 same_name in
      let genuine =
      given_genuine premise venue c.arbiter.window n h.present
      (present_given premise venue c.arbiter.window 1 h.earlier h.present k.given) in
      accepted_or_early s h.present.packets
      (taken_of_session premise.sessions premise.carries premise.ends venue n all s
      h.present.packets names (subst (λ (x : ℕ). IsSessionAt all x s) one at) genuine)
      c.arbiter.window c.arbiter.sent p answer content of
      (subst (λ (x : List ℕ). IsOutcome x c.arbiter.window c.arbiter.sent h.present.packets p
      answer) (sym same ∙ of.name) o)

  theirs : (all : List Session) (ordinal : ℕ) (s : Session)
      → BringExactly premise c.arbiter.venue all → IsSessionAt all ordinal s → IsOfSession s p
      → IsOk answer ⊎ ((answer ≡ Err OtherSession) ⊎ ((p.kind ≡ kinds.End)
      × (answer ≡ Err EndTooEarly) × (length s.items + 1 < first_of k.history.present.packets)))
  theirs all ordinal s names at of = elim o [
    | inl other ↦ inr (inl other.1)
    | inr same ↦ elim (here all ordinal s names at of same.0)
        [ inl ok ↦ inl ok | inr early ↦ inr (inr early) ]
  ]

  pub accepts : AcceptsTheirPacket premise c.arbiter.venue p answer
  accepts all ordinal s names at of = elim (theirs all ordinal s names at of) [
    | inl ok ↦ inl ok
    | inr (inl other) ↦ inr (inl other)
    | inr (inr early) ↦ inr (inr (early.0, early.1))
  ]

  pub skipped_past : HasSkippedPast premise c p answer
  skipped_past is all ordinal s h names at of f = elim (theirs all ordinal s names at of) [
    | inl ok ↦ absurd
        (false≢true (subst (λ (r : Result Outcome LineFault). IsOk r) is ok))
    | inr (inl other) ↦ absurd cc
    | inr (inr early) ↦
        let past = early.2 in
        let same = one_first c k.history h k.fits f in
        omega arith
  ]
