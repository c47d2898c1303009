use Rattle.std.proofs.Common.{◌≡◌, ℕ, [], ◌∷◌, ◌++◌, Option, Some, None, append-nil, ap, sym, subst, ◌∙◌}
use Rattle.feed_types.specs.declared.missing_range.MissingRange.{MissingRange}
use Rattle.mold_packet.specs.declared.request.Request.{Request}
use Rattle.line_arbiter.specs.Streams.{gap_of}
use Rattle.line_arbiter.specs.Histories.{History}
use Rattle.event_sinks.specs.declared.venue_gap.VenueGap.{VenueGap}
use Rattle.line_arbiter.specs.LastSent.{last_sent}
use Rattle.feed_text.specs.Following.{ReplayVenue, Follows}
use Rattle.event_sinks.specs.VenueGaps.{venue_gap}
use Rattle.feed_text.proofs.VenueSteps.{all_sent, gap_shown}
use Rattle.feed_text.proofs.venue.VenueReplay.put_lack.Goals as goal
use Rattle.feed_text.proofs.venue.VenueReplay.put_lack.Goals.{After-gap}

gap_is : (c : After-gap) (width place : ℕ) (h : History) → Follows width place c.args.self.now h
    → c.gap.result ≡ gap_of h.present.name width (last_sent h) h.present.packets
gap_is c width place h f =
    let v : ReplayVenue = record {
      arbiter = c.self.inside.arbiter;
      sent_before =
          c.self.inside.sent_before;
      opens_after = c.self.inside.opens_after;
    } in
    let g : Follows width place v h = subst (λ (w : ReplayVenue). Follows width place w h)
    (sym c.self.view_is) f in
    c.gap.ensures h.present.packets g.history.present ∙ gap_shown h (all_sent h g)

pub returns-in-Some-clause-lack : goal.returns-in-Some-clause-lack
returns-in-Some-clause-lack c = λ width place h f.
    let at = (goal.at.returns-in-Some-clause-lack c).After-gap in
    let gap : Some c.in-Some.gap ≡ gap_of h.present.name width (last_sent h) h.present.packets =
    sym c.in-Some.is ∙ gap_is at width place h f in
    let number : c.venue.result ≡ place = c.venue.ensures
    ∙ ap (λ (v : ReplayVenue). v.arbiter.venue) c.self.view_is ∙ f.number in
    let missing : MissingRange = record {
      first = c.in-Some.gap.number;
      count =
          c.in-Some.gap.count;
    } in
    let made : VenueGap = record { venue = place; messages = missing } in
    let is : c.of.result ≡ made = c.of.ensures
    ∙ ap (λ (v : ℕ). record { venue = v; messages = missing }) number in
    c.push_reserved.ensures.items
    ∙ ap (λ (made : VenueGap). c.args.lacks.now.items ++ made ∷ []) is
    ∙ ap (λ (o : Option Request). c.args.lacks.now.items ++ venue_gap place o) gap

pub returns-in_default-clause-lack : goal.returns-in_default-clause-lack
returns-in_default-clause-lack c = λ width place h f.
    let at = (goal.at.returns-in_default-clause-lack c).After-gap in
    let gap : None ≡ gap_of h.present.name width (last_sent h) h.present.packets =
    sym c.in_default.is ∙ gap_is at width place h f in
    sym (append-nil c.args.lacks.now.items) ∙ ap (λ (o : Option Request). c.args.lacks.now.items
    ++ venue_gap place o) gap
