use Rattle.std.proofs.Common.{◌≡◌, ℕ, ◌+◌, ◌++◌, ◌∷◌, [], Ok, refl, sym, ap, subst, ◌∙◌}
use Rattle.feed_types.specs.declared.line.LineId.{LineId}
use Rattle.feed_types.specs.declared.item.Numbered.{Numbered}
use Rattle.fifo_lane.specs.Lane.{LaneEnd}
use Rattle.line_arbiter.specs.declared.outcome.Outcome.TheVariants.{Taken}
use Rattle.feed_steps.specs.Premises.{AreInSequence, IsGenuinePacket}
use Rattle.venue_lines.specs.Brought.{brought_after}
use Rattle.venue_lines.specs.Cells.{CellState, CellFitsHistory}
use Rattle.venue_lines.specs.Sections.{TakesAndPushes}
use Rattle.venue_lines.proofs.CellPushes.{brings_one, first_number, may_pass, pass_fits, passes, sent_one, taken_one}
use Rattle.venue_lines.proofs.CellPackets.{counted_on, given_after, more_kept}
use Rattle.venue_lines.proofs.cell.VenueCell.take_and_push.Given.{Over}
use Rattle.venue_lines.proofs.cell.VenueCell.take_and_push.Goals as goal
use Rattle.venue_lines.proofs.cell.VenueCell.take_and_push.Goals.{After-count-2}

pub push-requires : goal.push-requires
push-requires g c =
    let k = c.self.invariant in
    let packets = k.history.present.packets in
    let venue = c.requires.venue ∙ ap (λ (v : CellState). v.arbiter.venue) (sym c.self.view_is) in
    let genuine = subst (λ (n : ℕ). IsGenuinePacket g.G.Genuine n c.args.packet.now)
    venue c.requires.genuine in
    let line = c.args.seat.now.line in
    let brings = brings_one c.self.inside.lines packets c.args.packet.now c.in_ok-next.next
    c.in_ok-next.ensures.item
    line (c.is_next.ensures.brings packets line k.fits.history.present cc) in
    let given = given_after g.G.Genuine g.N.FeedName.lanes _ line c.args.packet.now (Ok (Taken 1 0))
    k
    c.is_next.ensures.content brings.answer genuine in
    subst (λ (t : ℕ). AreInSequence g.G.Genuine t (c.self.inside.items.items
    ++ c.in_ok-next.next ∷ [])) (sym k.tag)
    (may_pass _ k.history line c.args.packet.now c.in_ok-next.next k.fits brings g.G.Genuine
    c.self.inside.lines.venue
    c.self.inside.lines.window given)

module _ (g : Over) (c : After-count-2 g) where
  abbrev new : CellState
  new = record {
    arbiter = c.take_next-outcome.new.self;
    lane = c.push.new.self;
    pace = c.self.inside.pacer;
    brought = c.count.new.self;
  }

  answer : c.take_next-outcome.result ≡ Taken 1 0
  answer = taken_one c.self.inside.lines [] c.args.packet.now c.in_ok-next.next
      c.in_ok-next.ensures.item _
      c.take_next-outcome.ensures.answer

  brought : c.count.new.self ≡ brought_after c.line-line.result c.args.packet.now
      (Ok c.take_next-outcome.result)
      c.self.inside.counted
  brought = counted_on c.line-line.result c.line-line.result c.args.packet.now
      c.take_next-outcome.result
      c.new-accepted.result c.self.inside.counted c.count.new.self c.count.ensures
      c.new-accepted.ensures refl

  sent : c.take_next-outcome.new.self.sent ≡ c.self.inside.lines.sent + 1
  sent = sent_one c.self.inside.lines [] c.args.packet.now c.in_ok-next.next
      c.in_ok-next.ensures.item _
      (c.is_next.ensures.next cc) c.take_next-outcome.ensures.sent

pub invariant_of-self-2 : goal.invariant_of-self-2
invariant_of-self-2 g c =
    let k = c.self.invariant in
    let e = c.take_next-outcome.ensures in
    let packets = k.history.present.packets in
    let venue = c.requires.venue ∙ ap (λ (v : CellState). v.arbiter.venue) (sym c.self.view_is) in
    let genuine = subst (λ (n : ℕ). IsGenuinePacket g.G.Genuine n c.args.packet.now)
    venue c.requires.genuine in
    let line = c.line-line.result in
    let brings = brings_one c.self.inside.lines packets c.args.packet.now c.in_ok-next.next
    c.in_ok-next.ensures.item
    line (c.is_next.ensures.brings packets line k.fits.history.present cc) in
    more_kept g.G.Genuine g.N.FeedName.lanes _ (new g c) line c.args.packet.now
    (Ok (Taken 1 0)) k e.kept
    (ap (λ (e : LaneEnd Numbered). e.tag) c.in-Ok.ensures)
    (ap (λ (e : LaneEnd Numbered). e.lane) c.in-Ok.ensures)
    (ap (λ (e : LaneEnd Numbered). e.capacity) c.in-Ok.ensures)
    (pass_fits _ k.history line c.args.packet.now c.in_ok-next.next k.fits brings
    (new g c) c.take_next-outcome.result (answer g c) c.in-Ok.ensures (sent g c) e.kept
    (e.fits packets k.fits.history.present) (brought g c))
    c.is_next.ensures.content brings.answer genuine

pub returns-clause-packet : goal.returns-clause-packet
returns-clause-packet g c = λ h fits.
    let f = subst (λ (v : CellState). CellFitsHistory v h) (sym c.self.view_is) fits in
    let e = c.take_next-outcome.ensures in
    let packets = h.present.packets in
    let line = c.line-line.result in
    let brings = brings_one c.self.inside.lines packets c.args.packet.now c.in_ok-next.next
    c.in_ok-next.ensures.item
    line (c.is_next.ensures.brings packets line f.history.present cc) in
    subst (λ (x : LineId × CellState). TakesAndPushes x.0 c.args.packet.now
    c.take_next-outcome.result h x.1
    (new g c)) (λ i. (c.line-line.ensures i, c.self.view_is i))
    (passes _ h line c.args.packet.now c.in_ok-next.next f brings (new g c)
    c.take_next-outcome.result
    (answer g c) c.in-Ok.ensures (sent g c) e.kept (e.fits packets f.history.present) (brought g c)
    (first_number _ _ _ c.in_ok-next.ensures.item))
