use Rattle.std.proofs.Common.{List, ap, ◌∙◌, sym}
use Rattle.venue_lines.specs.declared.accepted_packet.AcceptedPacket.{AcceptedPacket}
use Rattle.venue_lines.specs.Brought.{counts_of}
use Rattle.venue_lines.proofs.counted_line.CountedLine.count.Goals as goal

pub invariant_of-self : goal.invariant_of-self
invariant_of-self c =
    c.count.ensures (record {
      accepted = c.self.inside.packets.items;
      refused =
          c.self.inside.faults.items;
    })
    c.self.invariant
    ∙ ap (λ (xs : List AcceptedPacket). counts_of
    (record { accepted = xs; refused = c.self.inside.faults.items }))
    (sym c.with-self-inside.ensures)
