use Rattle.std.proofs.Common.{ℕ, Ok, Err, refl, sym, ap, subst, ◌∙◌}
use Rattle.feed_types.specs.declared.line.LineId.{LineId}
use Rattle.feed_steps.specs.Premises.{IsGenuinePacket}
use Rattle.venue_lines.specs.Cells.{CellState, CellFitsHistory}
use Rattle.venue_lines.specs.Sections.{AcceptsTheirPacket, HasSkippedPast, TakesPacket}
use Rattle.venue_lines.proofs.CellAnswers.{accepts, skipped_past}
use Rattle.venue_lines.proofs.CellPackets.{counted_on, no_more, packet_fits, packet_kept, takes}
use Rattle.venue_lines.proofs.cell.VenueCell.take.Goals as goal

pub invariant_of-self : goal.invariant_of-self
invariant_of-self g c =
    let k = c.self.invariant in
    let e = c.in-Ok.ensures in
    let packets = k.history.present.packets in
    let venue = c.requires.venue ∙ ap (λ (v : CellState). v.arbiter.venue) (sym c.self.view_is) in
    let genuine = subst (λ (n : ℕ). IsGenuinePacket g.G.Genuine n c.args.packet.now)
    venue c.requires.genuine in
    let brought = counted_on c.line.result c.line-in-Ok.result c.args.packet.now
    c.in-Ok.outcome c.new-accepted.result
    c.self.inside.counted c.count.new.self c.count.ensures c.new-accepted.ensures
    (c.line-in-Ok.ensures ∙ sym c.line.ensures) in
    packet_kept g.G.Genuine g.N.FeedName.lanes _ _ c.line.result c.args.packet.now
    (Ok c.in-Ok.outcome) k refl e.kept
    (packet_fits _ _ k.history c.line.result c.args.packet.now (Ok c.in-Ok.outcome) k.fits refl
    e.kept
    (e.fits packets k.fits.history.present) (e.grows packets k.fits.history.present) brought)
    c.number-number.ensures.content (e.outcome packets k.fits.history.present) genuine

pub returns-in-Ok-clause-packet : goal.returns-in-Ok-clause-packet
returns-in-Ok-clause-packet g c = λ h fits.
    let f = subst (λ (v : CellState). CellFitsHistory v h) (sym c.self.view_is) fits in
    let e = c.in-Ok.ensures in
    let packets = h.present.packets in
    let brought = counted_on c.line.result c.line-in-Ok.result c.args.packet.now
    c.in-Ok.outcome c.new-accepted.result
    c.self.inside.counted c.count.new.self c.count.ensures c.new-accepted.ensures
    (c.line-in-Ok.ensures ∙ sym c.line.ensures) in
    let new : CellState = record {
      arbiter = c.take.new.self;
      lane = c.self.inside.items;
      pace = c.self.inside.pacer;
      brought = c.count.new.self;
    } in
    subst (λ (x : LineId × CellState). TakesPacket x.0 c.args.packet.now
    (Ok c.in-Ok.outcome) h x.1 new)
    (λ i. (c.line.ensures i, c.self.view_is i))
    (takes _ new h c.line.result c.args.packet.now (Ok c.in-Ok.outcome) f refl e.kept
    (e.fits packets f.history.present)
    (e.grows packets f.history.present) brought (e.outcome packets f.history.present))

pub returns-in-Err-clause-packet : goal.returns-in-Err-clause-packet
returns-in-Err-clause-packet g c = λ h fits.
    let f = subst (λ (v : CellState). CellFitsHistory v h) (sym c.self.view_is) fits in
    let e = c.in-Err.ensures in
    let packets = h.present.packets in
    let new : CellState = record {
      arbiter = c.take.new.self;
      lane = c.self.inside.items;
      pace = c.self.inside.pacer;
      brought = c.self.inside.counted;
    } in
    subst (λ (x : LineId × CellState). TakesPacket x.0 c.args.packet.now
    (Err c.in-Err.fault) h x.1 new)
    (λ i. (c.line.ensures i, c.self.view_is i))
    (takes _ new h c.line.result c.args.packet.now (Err c.in-Err.fault) f refl e.kept
    (e.fits packets f.history.present)
    (e.grows packets f.history.present)
    (sym (no_more c.line.result c.args.packet.now c.in-Err.fault c.self.inside.counted))
    (e.outcome packets f.history.present))

pub returns-in-Ok-clause-accepts : goal.returns-in-Ok-clause-accepts
returns-in-Ok-clause-accepts g c =
    let k = c.self.invariant in
    let venue = c.requires.venue ∙ ap (λ (v : CellState). v.arbiter.venue) (sym c.self.view_is) in
    subst (λ (n : ℕ). AcceptsTheirPacket g.G.Genuine n c.args.packet.now (Ok c.in-Ok.outcome))
    (sym venue)
    (accepts g.G.Genuine g.N.FeedName.lanes _ k c.args.packet.now (Ok c.in-Ok.outcome)
    c.number-number.ensures.content
    (c.in-Ok.ensures.outcome k.history.present.packets k.fits.history.present))

pub returns-in-Err-clause-accepts : goal.returns-in-Err-clause-accepts
returns-in-Err-clause-accepts g c =
    let k = c.self.invariant in
    let venue = c.requires.venue ∙ ap (λ (v : CellState). v.arbiter.venue) (sym c.self.view_is) in
    subst (λ (n : ℕ). AcceptsTheirPacket g.G.Genuine n c.args.packet.now (Err c.in-Err.fault))
    (sym venue)
    (accepts g.G.Genuine g.N.FeedName.lanes _ k c.args.packet.now (Err c.in-Err.fault)
    c.number-number.ensures.content
    (c.in-Err.ensures.outcome k.history.present.packets k.fits.history.present))

pub returns-in-Err-clause-early : goal.returns-in-Err-clause-early
returns-in-Err-clause-early g c =
    let k = c.self.invariant in
    subst (λ (v : CellState). HasSkippedPast g.G.Genuine v c.args.packet.now (Err c.in-Err.fault))
    c.self.view_is
    (skipped_past g.G.Genuine g.N.FeedName.lanes _ k c.args.packet.now (Err c.in-Err.fault)
    c.number-number.ensures.content
    (c.in-Err.ensures.outcome k.history.present.packets k.fits.history.present))
