use Rattle.std.proofs.Common.{sym, subst}
use Rattle.std.proofs.lemmas.Result.{on_ok_weaker}
use Rattle.feed_core.specs.Fitting.{VenueView, FitsVenue}
use Rattle.feed_core.proofs.VenueMoves.{shown}
use Rattle.feed_core.proofs.venue.VenueState.finish.Goals as goal

pub returns : goal.returns
returns c = on_ok_weaker c.drain.result (λ drained window place v f.
    let g = subst (λ (h : VenueView). FitsVenue window place h v) (sym c.self.view_is) f in
    shown window place _ v c.drain.new.lane g (drained v.history.present.packets g.history.present))
    c.drain.ensures
