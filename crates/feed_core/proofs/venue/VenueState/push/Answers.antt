use Rattle.std.proofs.Common.{◌∙◌, sym, subst}
use Rattle.feed_core.specs.Fitting.{VenueView, FitsVenue, LeftPushed}
use Rattle.feed_steps.specs.declared.event.Done.TheVariants as done
use Rattle.feed_core.proofs.VenueMoves.{push_none, push_full, push_one}
use Rattle.feed_core.proofs.venue.VenueState.push.Goals as goal

pub returns-in_default : goal.returns-in_default
returns-in_default c = λ window place v f.
    let g = subst (λ (h : VenueView). FitsVenue window place h v) (sym c.self.view_is) f in
    subst (λ (h : VenueView). LeftPushed window place c.args.capacity v done.NothingReady h)
    c.self.view_is
    (push_none window place c.args.capacity v _ g (sym c.in_default.is ∙ c.next_ready.ensures.stream
    v.history.present.packets g.history.present))

pub returns-then-is_full : goal.returns-then-is_full
returns-then-is_full c = λ window place v f.
    let g = subst (λ (h : VenueView). FitsVenue window place h v) (sym c.self.view_is) f in
    subst (λ (h : VenueView). LeftPushed window place c.args.capacity v done.LaneFull h)
    c.self.view_is
    (push_full window place c.args.capacity v _ g c.in-Some.next (c.in-Some.ensures.stream
    v.history.present.packets g.history.present) (sym c.is_full.ensures ∙ c.if-is_full.true))

pub returns : goal.returns
returns c = λ window place v f.
    let g = subst (λ (h : VenueView). FitsVenue window place h v) (sym c.self.view_is) f in
    push_one window place c.args.capacity v _ g c.in-Some.next c.advance.new.self c.put.new.lane
    (c.in-Some.ensures.stream v.history.present.packets g.history.present)
    (sym c.is_full.ensures ∙ c.if-is_full.false)
    c.in_ok-put.ensures.ok c.advance.ensures.after
    (c.advance.ensures.fits v.history.present.packets g.history.present)
