use Rattle.std.proofs.Common.{◌∙◌, subst, sym}
use Rattle.feed_text.specs.Following.{ReplayVenue, Follows}
use Rattle.feed_text.proofs.VenueSteps.{all_sent, gap_shown}
use Rattle.feed_text.proofs.venue.VenueReplay.gap.Goals as goal

pub returns : goal.returns
returns c = λ width place h f.
    let v : ReplayVenue = record {
      arbiter = c.self.inside.arbiter;
      sent_before = c.self.inside.sent_before;
      opens_after = c.self.inside.opens_after;
    } in
    let g : Follows width place v h = subst (λ (w : ReplayVenue). Follows width place w h)
    (sym c.self.view_is) f in
    c.gap.ensures h.present.packets g.history.present ∙ gap_shown h (all_sent h g)
