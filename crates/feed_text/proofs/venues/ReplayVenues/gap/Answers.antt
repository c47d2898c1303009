use Rattle.std.proofs.Common.{◌<◌, ◌≤◌, ℕ, List, length, refl, sym, ap, subst, ◌∙◌, arith}
use Rattle.std.proofs.lemmas.Option.{slice_get_read}
use Rattle.feed_text.specs.Following.{ReplayVenue, VenueList, FollowAll}
use Rattle.feed_text.specs.Rules.{gap_at}
use Rattle.feed_text.proofs.PuttingIn.{gap_here, gap_past}
use Rattle.feed_text.proofs.Telling.{history_at}
use Rattle.feed_text.proofs.venues.ReplayVenues.gap.Goals as goal

pub returns-then-place-len : goal.returns-then-place-len
returns-then-place-len c = λ window hs f.
    let items : List ReplayVenue = c.self.inside.venues.items in
    let g : FollowAll window items hs = subst (λ (s : VenueList). FollowAll window s.items hs)
    (sym c.self.view_is) f in
    let count = g.count in
    let len = c.len.ensures in
    let here = c.index-place.ensures.value in
    let past = c.if-place-len.true in
    let beyond : length hs ≤ c.args.venue = omega (arith, count, len, here, past) in
    gap_past window hs c.args.venue beyond

pub returns : goal.returns
returns c = λ window hs f.
    let items : List ReplayVenue = c.self.inside.venues.items in
    let g : FollowAll window items hs = subst (λ (s : VenueList). FollowAll window s.items hs)
    (sym c.self.view_is) f in
    let place : ℕ = c.index-place.result in
    let len = c.len.ensures in
    let test = c.if-place-len.false in
    let there : place < length items = omega (arith, len, test) in
    let at = slice_get_read items (length items) place _ refl there c.index-replay.ensures in
    let h = history_at window items hs place c.index-replay.result.now g at in
    c.gap.ensures window place h.0 h.2 ∙ sym (gap_here window hs place h.0 h.1)
    ∙ ap (gap_at window hs) c.index-place.ensures.value
