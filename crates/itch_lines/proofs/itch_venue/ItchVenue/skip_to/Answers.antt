use Rattle.std.proofs.Common.{◌++◌, [], ◌∷◌, sym, subst, ℕ, List}
use Rattle.line_arbiter.specs.Packets.{Skip}
use Rattle.venue_normaliser.specs.Outputs.{from_start}
use Rattle.venue_normaliser.specs.States.{FitsPackets, NormaliserState}
use Rattle.item_packets.specs.Packed.{ArePacked, bytes_of_each}
use Rattle.itch_lines.proofs.Bringing.{brings_ready}
use Rattle.itch_lines.proofs.itch_venue.ItchVenue.skip_to.Goals as goal

pub returns-in_ok-pack_ready-in-Ok-clause-skips : goal.returns-in_ok-pack_ready-in-Ok-clause-skips
returns-in_ok-pack_ready-in-Ok-clause-skips c = λ packets put fits out.
    let before = c.args.self.now.normaliser in
    let later = packets ++ Skip c.args.number ∷ [] in
    let packed = c.in_ok-pack_ready-in-Ok.ensures.packed in
    let same = sym c.in_ok-pack_ready-in-Ok.ensures.normaliser in
    record {
      may = (rw c.in-Ok.is at (c.in_ok-skip_to.ensures.answer from_start packets fits)).1;
      fits = subst (λ (n : NormaliserState). FitsPackets n later) same
          (rw c.in-Ok.is at (c.in_ok-skip_to.ensures.fits from_start packets fits));
      brings = brings_ready before.lines.session before.book.keys packets later put
          c.clear.new.self.items c.skip_to.new.out.items (bytes_of_each c.pack_ready.new.made.items)
          c.clear.ensures.items
          (rw c.in-Ok.is at (c.in_ok-skip_to.ensures.output from_start packets fits)) out
          (λ first one run.
          subst (λ (name : List ℕ). ArePacked name c.skip_to.new.out.items
          (bytes_of_each c.pack_ready.new.made.items)) c.in_ok-skip_to.ensures.kept.0.session
          (packed first one run));
    }
