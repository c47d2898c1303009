use Rattle.std.proofs.Common.{Ok, refl, sym, subst}
use Rattle.venue_lines.specs.Cells.{CellState, CellFitsHistory}
use Rattle.venue_lines.specs.Sections.{SkipsGap}
use Rattle.venue_lines.proofs.CellMoves.{skip_kept, skipped_fits, skips}
use Rattle.venue_lines.proofs.cell.VenueCell.skip_to.Goals as goal

pub invariant_of-self : goal.invariant_of-self
invariant_of-self g c =
    let k = c.self.invariant in
    let e = c.in-Ok.ensures in
    let packets = k.history.present.packets in
    let fits = k.fits.history.present in
    let right = e.answer packets fits in
    skip_kept g.G.Genuine g.N.FeedName.lanes _ _ c.args.number k right.1 e.ok refl
    (skipped_fits _ _ k.history c.args.number k.fits tt right e.ok (e.fits packets fits)
    (e.grows packets fits) refl
    refl)

pub returns-in-Ok-clause-skip : goal.returns-in-Ok-clause-skip
returns-in-Ok-clause-skip g c = λ h fits.
    let f = subst (λ (v : CellState). CellFitsHistory v h) (sym c.self.view_is) fits in
    let e = c.in-Ok.ensures in
    let packets = h.present.packets in
    let new : CellState = record {
      arbiter = c.skip_to.new.self;
      lane = c.self.inside.items;
      pace = c.new-self-inside.result;
      brought = c.self.inside.counted;
    } in
    subst (λ (v : CellState). SkipsGap c.args.number (Ok tt) h v new) c.self.view_is
    (skips _ new h c.args.number f tt (e.answer packets f.history.present) e.ok
    (e.fits packets f.history.present)
    (e.grows packets f.history.present) refl refl)
