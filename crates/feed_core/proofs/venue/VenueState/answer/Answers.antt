use Rattle.std.proofs.Common.{ℕ, ◌≡◌, ◌∙◌, ap, sym, subst}
use Rattle.feed_steps.specs.declared.event.Done.TheVariants as done
use Rattle.feed_steps.specs.Steps.{packet_done}
use Rattle.feed_core.specs.Fitting.{VenueView, FitsVenue}
use Rattle.feed_core.proofs.VenueMoves.{answered_so}
use Rattle.feed_core.proofs.venue.VenueState.answer.Goals as goal
use Rattle.feed_core.proofs.venue.VenueState.answer.Goals.{in-Ok, in-Err}

pub returns : goal.returns
returns c = λ window place v bytes rest f spells.
    let g = subst (λ (h : VenueView). FitsVenue window place h v) (sym c.self.view_is) f in
    let told : c.match-take.result ≡ packet_done c.take.result = elim c.match-take.branch [
      | in-Ok w ↦ w.result-is ∙ sym (ap packet_done w.in-Ok.is)
      | in-Err w ↦ w.result-is ∙ ap (λ (n : ℕ). done.Refused n) w.code.ensures
          ∙ sym (ap packet_done w.in-Err.is)
    ] in
    answered_so window place _ c.take.new.self c.self.inside.items v c.args.line bytes rest
    c.args.packet.now c.take.result c.match-take.result g spells c.take.ensures.kept
    (c.take.ensures.outcome v.history.present.packets g.history.present)
    (c.take.ensures.fits v.history.present.packets g.history.present) told
