use Rattle.std.proofs.Common.{ℕ, Ok, refl, sym, ap, subst, ◌∙◌}
use Rattle.feed_types.specs.declared.line.LineId.{LineId}
use Rattle.feed_steps.specs.Premises.{IsGenuinePacket}
use Rattle.line_arbiter.specs.States.{State, KeepsItsPlace}
use Rattle.line_arbiter.specs.laws.FitsHistory.{keeping_all_but_sent_is_reflexive}
use Rattle.venue_lines.specs.Cells.{CellState, CellFitsHistory}
use Rattle.venue_lines.specs.Sections.{TakesPacket}
use Rattle.venue_lines.proofs.CellPackets.{counted_on, packet_fits, packet_kept, takes}
use Rattle.venue_lines.proofs.cell.VenueCell.take_repeat.Goals as goal

stays : (s : State) → KeepsItsPlace s s
stays s = record { session = (keeping_all_but_sent_is_reflexive {s = s}).session; sent = refl }

pub invariant_of-self : goal.invariant_of-self
invariant_of-self g c =
    let k = c.self.invariant in
    let e = c.in_ok-outcome.ensures in
    let packets = k.history.present.packets in
    let line = c.line-line.result in
    let outcome = c.in_ok-outcome.outcome in
    let venue = c.requires.venue ∙ ap (λ (v : CellState). v.arbiter.venue) (sym c.self.view_is) in
    let genuine = subst (λ (n : ℕ). IsGenuinePacket g.G.Genuine n c.args.packet.now)
    venue c.requires.genuine in
    let brought = counted_on line line c.args.packet.now outcome c.new-repeated.result
    c.self.inside.counted c.count.new.self c.count.ensures c.new-repeated.ensures refl in
    let kept = stays c.self.inside.lines in
    packet_kept g.G.Genuine g.N.FeedName.lanes _ _ line c.args.packet.now (Ok outcome) k refl kept
    (packet_fits _ _ k.history line c.args.packet.now (Ok outcome) k.fits refl kept
    (e.fits packets line k.fits.history.present) (e.grows packets line k.fits.history.present)
    brought)
    e.content (e.answer packets k.fits.history.present) genuine

pub returns-clause-packet : goal.returns-clause-packet
returns-clause-packet g c = λ h fits.
    let f = subst (λ (v : CellState). CellFitsHistory v h) (sym c.self.view_is) fits in
    let e = c.in_ok-outcome.ensures in
    let packets = h.present.packets in
    let line = c.line-line.result in
    let outcome = c.in_ok-outcome.outcome in
    let brought = counted_on line line c.args.packet.now outcome c.new-repeated.result
    c.self.inside.counted c.count.new.self c.count.ensures c.new-repeated.ensures refl in
    let new : CellState = record {
      arbiter = c.self.inside.lines;
      lane = c.self.inside.items;
      pace = c.self.inside.pacer;
      brought = c.count.new.self;
    } in
    subst (λ (x : LineId × CellState). TakesPacket x.0 c.args.packet.now (Ok outcome) h x.1 new)
    (λ i. (c.line-line.ensures i, c.self.view_is i))
    (takes _ new h line c.args.packet.now (Ok outcome) f refl (stays c.self.inside.lines)
    (e.fits packets line f.history.present) (e.grows packets line f.history.present) brought
    (e.answer packets f.history.present))
