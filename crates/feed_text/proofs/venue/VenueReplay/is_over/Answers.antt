use Rattle.std.proofs.Common.{◌≡◌, ℕ, ap, sym, ◌∙◌, subst, arith, inl, inr, Option, Some}
use Rattle.std.specs.Prelude.{MatchBool, nat_eq, true}
use Rattle.std.proofs.lemmas.Bool.{cases_Bool, false≢true}
use Rattle.std.proofs.lemmas.Bool.Decides.{nat_tests}
use Rattle.line_arbiter.specs.declared.arbiter.ArbiterStatus.{ArbiterStatus}
use Rattle.line_arbiter.specs.Fits.{cursors_of}
use Rattle.line_arbiter.specs.LastSent.{last_sent}
use Rattle.feed_text.specs.Following.{ReplayVenue, Follows}
use Rattle.feed_text.proofs.VenueSteps.{all_sent, cursors_shown}
use Rattle.feed_text.proofs.venue.VenueReplay.is_over.Goals as goal

-- the end is the last item, by the cursors
over_by : (end sent last : ℕ) (e : Option ℕ) → Some end ≡ e → sent ≡ last
    → MatchBool (nat_eq end sent) (e ≡ Some last) (e ≡ Some last → ⊥)
over_by end sent last e is all = elim (cases_Bool (nat_eq end sent)) [
  | inl same ↦ rw same (
      let here : end ≡ sent = grind (arith, nat_tests) in sym is ∙ ap Some (here ∙ all))
  | inr other ↦ rw other (λ (x : e ≡ Some last).
      let both : Some end ≡ Some last = is ∙ x in
      let at : end ≡ last = cc in
      let here : end ≡ sent = at ∙ sym all in
      let wrong : nat_eq end sent ≡ true = grind (arith, nat_tests) in
      false≢true (sym other ∙ wrong))
]

pub returns-in-Some : goal.returns-in-Some
returns-in-Some c = λ width place h f.
    let v : ReplayVenue = record {
      arbiter = c.self.inside.arbiter;
      sent_before = c.self.inside.sent_before;
      opens_after = c.self.inside.opens_after;
    } in
    let g : Follows width place v h = subst (λ (w : ReplayVenue). Follows width place w h)
    (sym c.self.view_is) f in
    let cursors : c.status-cursors.result ≡ cursors_of (last_sent h) h.present.packets =
    c.status-cursors.ensures.packets h.present.packets g.history.present
    ∙ cursors_shown h (all_sent h g) in
    over_by c.in-Some.end c.status-cursors.result.sent (last_sent h) _
    (sym c.in-Some.is ∙ ap (λ (s : ArbiterStatus). s.end) cursors)
    (ap (λ (s : ArbiterStatus). s.sent) cursors)
