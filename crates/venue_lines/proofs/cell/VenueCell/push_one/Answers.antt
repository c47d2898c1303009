use Rattle.std.proofs.Common.{ℕ, ◌++◌, ◌∷◌, [], Ok, Err, refl, sym, subst, ◌∙◌}
use Rattle.feed_types.specs.declared.item.Numbered.{Numbered}
use Rattle.line_arbiter.specs.Streams.{place_of}
use Rattle.fifo_lane.specs.Lane.{LaneEnd}
use Rattle.feed_steps.specs.Premises.{AreInSequence}
use Rattle.venue_lines.specs.Cells.{CellState, CellFitsHistory}
use Rattle.venue_lines.specs.Sections.{PushesOne}
use Rattle.feed_steps.specs.declared.unsent.Unsent.TheVariants as unsent
use Rattle.venue_lines.proofs.CellPushes.{may_push, push_fits, push_full, push_kept, push_nothing, pushes}
use Rattle.venue_lines.proofs.cell.VenueCell.push_one.Goals as goal

pub returns-in_default-clause-push : goal.returns-in_default-clause-push
returns-in_default-clause-push g c = λ h fits.
    let f = subst (λ (v : CellState). CellFitsHistory v h) (sym c.self.view_is) fits in
    subst (λ (v : CellState). PushesOne (Err unsent.Nothing) h v v) c.self.view_is
    (push_nothing _ h f (sym c.in_default.is ∙ c.next_ready.ensures.stream
    h.present.packets f.history.present))

pub push-requires : goal.push-requires
push-requires g c =
    let k = c.self.invariant in
    subst (λ (t : ℕ). AreInSequence g.G.Genuine t (c.self.inside.items.items
    ++ c.in-Some.ready ∷ [])) (sym k.tag)
    (may_push c.self.inside.items.items (place_of k.history.present.packets
    c.self.inside.lines.sent) k.history
    k.fits.sent g.G.Genuine
    c.self.inside.lines.venue c.self.inside.lines.window c.in-Some.ready k.given
    (c.in-Some.ensures.stream k.history.present.packets k.fits.history.present))

pub invariant_of-self : goal.invariant_of-self
invariant_of-self g c =
    let k = c.self.invariant in
    let packets = k.history.present.packets in
    push_kept g.G.Genuine g.N.FeedName.lanes _ _ c.in-Some.ready k c.in-Ok.ensures
    c.advance.ensures.after
    (push_fits _ k.history k.fits _ c.in-Some.ready (c.in-Some.ensures.stream packets
    k.fits.history.present)
    c.in-Ok.ensures refl c.advance.ensures.after (c.advance.ensures.fits packets
    k.fits.history.present))

pub returns-in-Ok-clause-push : goal.returns-in-Ok-clause-push
returns-in-Ok-clause-push g c = λ h fits.
    let f = subst (λ (v : CellState). CellFitsHistory v h) (sym c.self.view_is) fits in
    let packets = h.present.packets in
    let new : CellState = record {
      arbiter = c.advance.new.self;
      lane = c.push.new.self;
      pace = c.self.inside.pacer;
      brought = c.self.inside.counted;
    } in
    let stream = c.in-Some.ensures.stream packets f.history.present in
    subst (λ (v : CellState). PushesOne (Ok c.in-Some.ready.number) h v new) c.self.view_is
    (pushes _ h f new c.in-Some.ready c.in-Some.ready.number stream refl c.in-Ok.ensures
    (push_fits _ h f new c.in-Some.ready stream c.in-Ok.ensures refl c.advance.ensures.after
    (c.advance.ensures.fits packets f.history.present)))

pub returns-in-Err-clause-push : goal.returns-in-Err-clause-push
returns-in-Err-clause-push g c = λ h fits.
    let f = subst (λ (v : CellState). CellFitsHistory v h) (sym c.self.view_is) fits in
    let left : LaneEnd Numbered → CellState = λ e. record {
      arbiter = c.self.inside.lines;
      lane = e;
      pace = c.self.inside.pacer;
      brought = c.self.inside.counted;
    } in
    subst (λ (x : CellState × LaneEnd Numbered). PushesOne (Err unsent.LaneFull) h x.0 (left x.1))
    (λ i. (c.self.view_is i, sym c.in-Err.ensures.1 i))
    (push_full _ h f c.in-Some.ready (c.in-Some.ensures.stream h.present.packets f.history.present)
    c.in-Err.ensures.2)
