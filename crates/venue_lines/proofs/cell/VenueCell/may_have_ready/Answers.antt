use Rattle.std.proofs.Common.{◌≡◌, length, None, sym, subst, ◌∙◌, arith}
use Rattle.std.specs.Prelude.{slice_get}
use Rattle.line_arbiter.specs.Histories.{streams_of}
use Rattle.line_arbiter.specs.laws.Fronts.{none_is}
use Rattle.venue_lines.specs.Cells.{CellState, CellFitsHistory}
use Rattle.venue_lines.proofs.CellPushes.{nothing_next}
use Rattle.venue_lines.proofs.cell.VenueCell.may_have_ready.Goals as goal

pub returns-else-status : goal.returns-else-status
returns-else-status g c = λ none h fits.
    let f = subst (λ (v : CellState). CellFitsHistory v h) (sym c.self.view_is) fits in
    let e = c.status-status.ensures.cursors in
    subst (λ (v : CellState). slice_get (streams_of h) (length v.lane.items) ≡ None) c.self.view_is
    (nothing_next _ h f (omega (arith, c.if-status.false, e.sent, e.front))
    (sym e.end ∙ none_is c.status-status.result.end (sym c.is_some.ensures ∙ none)))
