use Rattle.std.proofs.Common.{ℕ, ◌≡◌, ◌∙◌, ap, sym, subst}
use Rattle.feed_steps.specs.declared.event.Done.{Done}
use Rattle.feed_steps.specs.declared.event.Done.TheVariants as done
use Rattle.feed_steps.specs.Steps.{renewal_done}
use Rattle.feed_core.specs.Fitting.{VenueView, FitsVenue, LeftRenewed}
use Rattle.feed_core.proofs.VenueMoves.{renewal_left}
use Rattle.feed_core.proofs.venue.VenueState.renew.Goals as goal
use Rattle.feed_core.proofs.venue.VenueState.renew.Goals.{in-Ok, in-Err}

pub returns : goal.returns
returns c = λ window place v f.
    let g = subst (λ (h : VenueView). FitsVenue window place h v) (sym c.self.view_is) f in
    let told : c.match-renew.result ≡ renewal_done c.renew.result = elim c.match-renew.branch [
      | in-Ok w ↦ w.result-is ∙ sym (ap renewal_done w.in-Ok.is)
      | in-Err w ↦ w.result-is ∙ ap (λ (n : ℕ). done.Refused n) w.code.ensures
          ∙ sym (ap renewal_done w.in-Err.is)
    ] in
    subst (λ (d : Done). LeftRenewed window place v c.args.session d
    (record { arbiter = c.renew.new.self; lane = c.self.inside.items })) (sym told)
    (renewal_left window place _ c.renew.new.self c.self.inside.items v c.args.session
    c.renew.result g c.renew.ensures.answer c.renew.ensures.ok c.renew.ensures.fits
    (c.renew.ensures.complete v.history.present.packets g.history.present) c.renew.ensures.refused)
