use Rattle.text_out.specs.Members.{writing_of}
use Rattle.std.proofs.Common.{refl, sym, ap, append-nil, length}
use Rattle.std.specs.Prelude.{slice_set}
use Rattle.std.proofs.lemmas.Option.{slice_get_read}
use Rattle.capture_records.specs.Capture.{datagram_record}
use Rattle.normalising.proofs.Venues.{gives_next}
use Rattle.normalising.proofs.normalised_venues.NormalisedVenues.give_packet.Goals as goal

pub returns-clause-takes : goal.returns-clause-takes
returns-clause-takes g c = λ bytes more spells. gives_next
    (writing_of g.W.TextOut)
    g.met.W.TextOut.adds_none (datagram_record c.args.venue c.args.line bytes) c.args.self.now _
    c.index_mut-it.result.now c.take.new.self c.args.writer.now c.take.new.writer
    c.take.result
    (slice_get_read c.args.self.now.venues.items (length c.args.self.now.venues.items)
    c.args.venue _ refl c.requires
    (rw (← c.index.ensures.value) c.index_mut-it.ensures.value))
    (ap (λ i. slice_set c.args.self.now.venues.items i c.take.new.self) c.index.ensures.value)
    refl refl c.take.ensures.form
    (λ feed h f is. c.take.ensures.takes feed c.args.venue h bytes more f spells is)
    (λ feed h after f g. sym (append-nil c.args.self.now.given_up.items))
