use Rattle.std.proofs.Common.{ℕ, ◌≡◌, ◌∙◌, ap, sym, subst}
use Rattle.feed_steps.specs.declared.event.Done.{Done}
use Rattle.feed_steps.specs.declared.event.Done.TheVariants as done
use Rattle.feed_steps.specs.Steps.{skip_done}
use Rattle.feed_core.specs.Fitting.{VenueView, FitsVenue, LeftSkipped}
use Rattle.feed_core.proofs.VenueMoves.{skip_left}
use Rattle.feed_core.proofs.venue.VenueState.skip_to.Goals as goal
use Rattle.feed_core.proofs.venue.VenueState.skip_to.Goals.{in-Ok, in-Err}

pub returns : goal.returns
returns c = λ window place v f.
    let g = subst (λ (h : VenueView). FitsVenue window place h v) (sym c.self.view_is) f in
    let told : c.match-skip_to.result ≡ skip_done c.args.number c.skip_to.result =
    elim c.match-skip_to.branch [
      | in-Ok w ↦ w.result-is ∙ sym (ap (skip_done c.args.number) w.in-Ok.is)
      | in-Err w ↦ w.result-is ∙ ap (λ (n : ℕ). done.Refused n) w.code.ensures
          ∙ sym (ap (skip_done c.args.number) w.in-Err.is)
    ] in
    subst (λ (d : Done). LeftSkipped window place v c.args.number d
    (record { arbiter = c.skip_to.new.self; lane = c.self.inside.items })) (sym told)
    (skip_left window place _ c.skip_to.new.self c.self.inside.items v c.args.number
    c.skip_to.result g (c.skip_to.ensures.answer v.history.present.packets g.history.present)
    c.skip_to.ensures.ok
    (c.skip_to.ensures.fits v.history.present.packets g.history.present) c.skip_to.ensures.refused)
