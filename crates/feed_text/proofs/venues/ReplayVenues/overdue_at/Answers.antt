use Rattle.std.proofs.Common.{◌<◌, ℕ, List, length, refl, sym, subst, ◌∙◌, arith}
use Rattle.std.proofs.lemmas.Option.{slice_get_read}
use Rattle.feed_text.specs.Following.{ReplayVenue, VenueList, FollowAll}
use Rattle.feed_text.specs.Rules.{HasStood}
use Rattle.feed_text.specs.Standings.{kept_at}
use Rattle.feed_text.proofs.PuttingIn.{not_stood, overdue_here}
use Rattle.feed_text.proofs.Telling.{history_at}
use Rattle.feed_text.proofs.venues.ReplayVenues.overdue_at.Goals as goal

pub returns-in_default : goal.returns-in_default
returns-in_default c = λ window at f kept number x.
    not_stood c.args.clock.now.span c.args.clock.now.time x.overdue.gap.number
    (kept_at c.args.kept.now.gaps c.args.place) c.in_default.not-Some
    (subst (HasStood c.args.clock.now.span c.args.clock.now.time x.overdue.gap.number)
    (kept c.args.place) x.overdue.stood)

pub returns : goal.returns
returns c = λ window at f kept.
    let items : List ReplayVenue = c.self.inside.venues.items in
    let g : FollowAll window items at.histories =
    subst (λ (s : VenueList). FollowAll window s.items at.histories) (sym c.self.view_is) f in
    let place : ℕ = c.args.place in
    let len = c.len.ensures in
    let test = c.if-place-len.false in
    let there : place < length items = omega (arith, len, test) in
    let here = slice_get_read items (length items) place _ refl there c.index-venue.ensures in
    let h = history_at window items at.histories place c.index-venue.result.now g here in
    overdue_here window c.args.clock.now.span c.args.clock.now.time at place h.0
    c.in-Some.standing c.overdue.result h.1 (kept place ∙ c.in-Some.is)
    (c.overdue.ensures window place h.0 h.2)
