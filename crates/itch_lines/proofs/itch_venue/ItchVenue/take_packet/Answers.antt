use Rattle.std.proofs.Common.{◌++◌, [], ◌∷◌, sym, subst, ℕ, List}
use Rattle.line_arbiter.specs.Packets.{arrival_of}
use Rattle.venue_normaliser.specs.Ends.{read_as}
use Rattle.venue_normaliser.specs.Outputs.{from_start}
use Rattle.venue_normaliser.specs.States.{FitsPackets}
use Rattle.item_packets.specs.Packed.{ArePacked, bytes_of_each}
use Rattle.itch_lines.proofs.Bringing.{brings_ready}
use Rattle.itch_lines.proofs.itch_venue.ItchVenue.take_packet.Goals as goal

pub returns-clause-takes : goal.returns-clause-takes
returns-clause-takes c = λ packets put fits out.
    let before = c.args.self.now.normaliser in
    let later = packets ++ arrival_of c.args.line (read_as before.end_number c.args.packet.now)
    c.in_ok-answer.answer ∷ [] in
    let packed = c.in_ok-pack_ready.ensures.packed in
    record {
      outcome = c.in_ok-answer.ensures.outcome from_start packets fits;
      fits = subst (λ n. FitsPackets n later) (sym c.in_ok-pack_ready.ensures.normaliser)
          (c.in_ok-answer.ensures.fits from_start packets fits);
      brings = brings_ready before.lines.session before.book.keys packets later put
          c.clear.new.self.items c.take.new.out.items (bytes_of_each c.pack_ready.new.made.items)
          c.clear.ensures.items (c.in_ok-answer.ensures.output from_start packets fits) out
          (λ first one run.
          subst (λ (name : List ℕ). ArePacked name c.take.new.out.items
          (bytes_of_each c.pack_ready.new.made.items)) c.in_ok-answer.ensures.kept.0.session
          (packed first one run));
    }
