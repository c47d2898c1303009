use Rattle.std.proofs.Common.{List, ap, ◌∙◌, sym}
use Rattle.venue_lines.specs.declared.faults.TakeFault.{TakeFault}
use Rattle.venue_lines.specs.Brought.{counts_of}
use Rattle.venue_lines.proofs.counted_line.CountedLine.refuse.Goals as goal

pub invariant_of-self : goal.invariant_of-self
invariant_of-self c =
    c.refuse.ensures (record {
      accepted = c.self.inside.packets.items;
      refused =
          c.self.inside.faults.items;
    })
    c.self.invariant
    ∙ ap (λ (xs : List TakeFault). counts_of
    (record { accepted = c.self.inside.packets.items; refused = xs }))
    (sym c.with-self-inside.ensures)
