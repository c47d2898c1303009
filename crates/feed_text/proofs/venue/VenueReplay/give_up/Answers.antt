use Rattle.std.proofs.Common.{Err, sym, subst}
use Rattle.std.proofs.lemmas.Result.{err_from_is_err_and}
use Rattle.line_arbiter.specs.States.{State}
use Rattle.feed_text.specs.Following.{ReplayVenue, Follows, GivesUp}
use Rattle.feed_text.proofs.VenueSteps.{given_up, not_given_up}
use Rattle.feed_text.proofs.venue.VenueReplay.give_up.Goals as goal

pub returns : goal.returns
returns c = λ width place h f.
    let v : ReplayVenue = record {
      arbiter = c.self.inside.arbiter;
      sent_before =
          c.self.inside.sent_before;
      opens_after = c.self.inside.opens_after;
    } in
    let g = subst (λ (w : ReplayVenue). Follows width place w h) (sym c.self.view_is) f in
    given_up width place h v c.skip_to.new.self c.args.number
    c.sent-sent.result c.status.result.sent g
    (c.in_ok-skip_to.ensures.answer h.present.packets g.history.present) c.in_ok-skip_to.ensures.ok
    (c.in_ok-skip_to.ensures.fits h.present.packets g.history.present)
    (c.sent-sent.ensures width place h f) c.status.ensures.cursors.sent

pub returns-in_err-skip_to : goal.returns-in_err-skip_to
returns-in_err-skip_to c = λ width place h f.
    let v : ReplayVenue = record {
      arbiter = c.self.inside.arbiter;
      sent_before =
          c.self.inside.sent_before;
      opens_after = c.self.inside.opens_after;
    } in
    let g = subst (λ (w : ReplayVenue). Follows width place w h) (sym c.self.view_is) f in
    let p = err_from_is_err_and c.from_residual.result c.from_residual.ensures.1 in
    rw (p.1, p.2)
    (subst (λ (s : State). GivesUp width place c.args.number h
    (record {
      arbiter = s;
      sent_before = c.self.inside.sent_before;
      opens_after =
          c.self.inside.opens_after;
    }) (Err c.in_err-skip_to.field-0.0))
    (sym c.in_err-skip_to.ensures.refused)
    (not_given_up width place h v c.args.number c.in_err-skip_to.field-0.0 g
    (c.in_err-skip_to.ensures.answer h.present.packets g.history.present)))
