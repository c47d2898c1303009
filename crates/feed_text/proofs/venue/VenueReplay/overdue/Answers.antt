use Rattle.std.proofs.Common.{◌≡◌, ℕ, ap, sym, ◌∙◌, subst, arith, Some}
use Rattle.std.proofs.lemmas.Option.{none-some}
use Rattle.mold_packet.specs.declared.request.Request.{Request}
use Rattle.line_arbiter.specs.Histories.{History}
use Rattle.line_arbiter.specs.LastSent.{last_gap}
use Rattle.feed_text.specs.Following.{ReplayVenue, Follows}
use Rattle.feed_text.specs.Rules.{next_come}
use Rattle.feed_text.proofs.VenueSteps.{all_sent, cursors_shown, gap_shown}
use Rattle.feed_text.proofs.venue.VenueReplay.overdue.Goals as goal
use Rattle.feed_text.proofs.venue.VenueReplay.overdue.Goals.{After-gap, After-status}

follows_inside : (c : After-gap) (width place : ℕ) (h : History)
    → Follows width place c.args.self.now h → Follows width place (record {
      arbiter = c.self.inside.arbiter;
      sent_before = c.self.inside.sent_before;
      opens_after = c.self.inside.opens_after;
    }) h
follows_inside c width place h f = subst (λ (w : ReplayVenue). Follows width place w h)
    (sym c.self.view_is) f

gap_is : (c : After-gap) (width place : ℕ) (h : History) → Follows width place c.args.self.now h
    → c.gap.result ≡ last_gap width h
gap_is c width place h f =
    let g = follows_inside c width place h f in
    c.gap.ensures h.present.packets g.history.present ∙ gap_shown h (all_sent h g)

pub returns-in_default : goal.returns-in_default
returns-in_default c = λ window place h f number x.
    let at = (goal.at.returns-in_default c).After-gap in
    none-some x.gap (sym c.in_default.is ∙ gap_is at window place h f ∙ x.lacks)

pub returns-then-next-gap : goal.returns-then-next-gap
returns-then-next-gap c = λ window place h f.
    let at = (goal.at.returns-then-next-gap c).After-gap in
    let g = follows_inside at window place h f in
    let past = c.if-next-gap.true in
    record {
      gap = c.in-Some.gap;
      lacks = sym (gap_is at window place h f) ∙ c.in-Some.is;
      stood = c.if-not-has_stood.ensures;
      first = c.next_come-next.ensures h (c.status.ensures.packets h.present.packets
          g.history.present ∙ cursors_shown h (all_sent h g));
      missing = omega (arith, past);
    }

pub returns-else-next-gap : goal.returns-else-next-gap
returns-else-next-gap c = λ window place h f number x.
    let at = (goal.at.returns-else-next-gap c).After-gap in
    let g = follows_inside at window place h f in
    let first = c.next_come-next.ensures h (c.status.ensures.packets h.present.packets
    g.history.present ∙ cursors_shown h (all_sent h g)) in
    let some : Some c.in-Some.gap ≡ Some x.gap = sym c.in-Some.is ∙ gap_is at window place h f
    ∙ x.lacks in
    let same : c.in-Some.gap ≡ x.gap = cc in
    let number_is : c.in-Some.gap.number ≡ x.gap.number = ap (λ (r : Request). r.number) same in
    let next_is : next_come h c.in-Some.gap ≡ next_come h x.gap = ap (next_come h) same in
    let not_past = c.if-next-gap.false in
    let is = x.first in
    let missing = x.missing in
    absurd (omega (arith, first, number_is, next_is, not_past, is, missing))
