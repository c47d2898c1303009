use Rattle.std.proofs.Common.{Err, sym, subst}
use Rattle.std.proofs.lemmas.Result.{err_from_is_err_and}
use Rattle.line_arbiter.specs.States.{State}
use Rattle.feed_text.specs.Following.{ReplayVenue, Follows, Renews}
use Rattle.feed_text.proofs.VenueSteps.{not_renewed, renewed_follows}
use Rattle.feed_text.proofs.venue.VenueReplay.next_session.Goals as goal

pub returns : goal.returns
returns c = λ width place h f.
    renewed_follows width place h
    (record {
      arbiter = c.self.inside.arbiter;
      sent_before = c.self.inside.sent_before;
      opens_after = c.self.inside.opens_after;
    })
    c.renew.new.self c.args.session c.in_ok-ordinal.ordinal c.sent-sent.result
    (subst (λ (v : ReplayVenue). Follows width place v h) (sym c.self.view_is) f)
    c.in_ok-ordinal.ensures.answer c.in_ok-ordinal.ensures.ok c.in_ok-ordinal.ensures.fits
    (c.sent-sent.ensures width place h f)

pub returns-in_err-ordinal : goal.returns-in_err-ordinal
returns-in_err-ordinal c = λ width place h f.
    let p = err_from_is_err_and c.from_residual.result c.from_residual.ensures.1 in
    rw (p.1, p.2)
    (subst (λ (s : State). Renews width place c.args.session h
    (record {
      arbiter = s;
      sent_before = c.self.inside.sent_before;
      opens_after =
          c.self.inside.opens_after;
    }) (Err c.in_err-ordinal.field-0.0))
    (sym c.in_err-ordinal.ensures.refused)
    (not_renewed width place h
    (record {
      arbiter = c.self.inside.arbiter;
      sent_before = c.self.inside.sent_before;
      opens_after = c.self.inside.opens_after;
    })
    c.args.session c.in_err-ordinal.field-0.0
    (subst (λ (v : ReplayVenue). Follows width place v h) (sym c.self.view_is) f)
    c.in_err-ordinal.ensures.answer))
