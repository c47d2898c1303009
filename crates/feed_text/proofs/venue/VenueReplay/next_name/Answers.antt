use Rattle.std.proofs.Common.{◌≡◌, ◌-◌, length, ap, sym, ◌∙◌, subst, arith}
use Rattle.std.specs.Prelude.{slice_get}
use Rattle.feed_text.specs.Following.{ReplayVenue, Follows}
use Rattle.run_settings.specs.NextSessions.{names_after}
use Rattle.feed_text.proofs.PutInSteps.{names_len}
use Rattle.feed_text.proofs.Renewals.{name_by}
use Rattle.feed_text.proofs.venue.VenueReplay.next_name.Goals as goal

pub returns : goal.returns
returns c = λ width place h f.
    let v : ReplayVenue = record {
      arbiter = c.self.inside.arbiter;
      sent_before = c.self.inside.sent_before;
      opens_after = c.self.inside.opens_after;
    } in
    let g : Follows width place v h = subst (λ (w : ReplayVenue). Follows width place w h)
    (sym c.self.view_is) f in
    let value = c.ordinal.ensures.value in
    let names = ap length g.history.names in
    let len = names_len h in
    let is : c.ordinal.result - 1 ≡ length h.earlier = omega (arith, value, names, len) in
    name_by c.args.next.now c.args.venue h c.name_after.result
    (c.if-not-is_over.ensures width place h f)
    (c.name_after.ensures ∙ ap (slice_get (names_after c.args.venue c.args.next.now)) is)
