use Rattle.std.proofs.Common.{◌+◌, Ok, refl, sym, subst}
use Rattle.line_arbiter.specs.States.{ordinal_of}
use Rattle.venue_lines.specs.Cells.{CellState, CellFitsHistory}
use Rattle.venue_lines.specs.Sections.{RenewsSession}
use Rattle.venue_lines.proofs.CellMoves.{renewed_kept, renews}
use Rattle.venue_lines.proofs.cell.VenueCell.renew.Goals as goal

pub invariant_of-self : goal.invariant_of-self
invariant_of-self g c =
    let k = c.self.invariant in
    let e = c.in-Ok.ensures in
    let named = subst (λ (v : CellState). g.G.Genuine.sessions v.arbiter.venue
    (ordinal_of v.arbiter + 1)
    c.args.session) (sym c.self.view_is) c.requires in
    renewed_kept _ _ k.history c.args.session k.fits e.ok e.fits
    (e.complete k.history.present.packets k.fits.history.present) refl refl
    g.G.Genuine g.N.FeedName.lanes k refl named

pub returns-in-Ok-clause-renew : goal.returns-in-Ok-clause-renew
returns-in-Ok-clause-renew g c = λ h fits.
    let f = subst (λ (v : CellState). CellFitsHistory v h) (sym c.self.view_is) fits in
    let e = c.in-Ok.ensures in
    let new : CellState = record {
      arbiter = c.renew.new.self;
      lane = c.self.inside.items;
      pace = c.new-self-inside.result;
      brought = c.self.inside.counted;
    } in
    subst (λ (v : CellState). RenewsSession c.args.session (Ok c.in-Ok.ordinal) h v new)
    c.self.view_is
    (renews _ new h c.args.session f e.ok e.fits (e.complete h.present.packets f.history.present)
    refl refl
    c.in-Ok.ordinal e.answer)
